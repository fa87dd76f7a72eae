-- One batch more is xored in each turn, and at the end all are.
use Rattle.std.proofs.Common.{◌≡◌, ℕ, ◌+◌, ◌*◌, ◌%◌, ◌^◌, List, length, take, refl, arith}
use Rattle.std.proofs.lemmas.List.{length-take-le}
use Rattle.mbj_types.specs.Aes.{encipher}
use Rattle.mbj_types.specs.Modes.{ctr_blocks}
use Rattle.mbj_blocks.proofs.Walk.{walk_end}
use Rattle.mbj_aes_lanes.specs.declared.narrow.by_fours.TheConstants.{BATCH_BLOCKS}
use Rattle.mbj_aes_lanes.proofs.KeyStreams.{stream_from, stream_from-cons, stream_on}
use Rattle.mbj_aes_lanes.proofs.narrow.counters.xor_from.Goals as goal

pub batches-preserved : goal.batches-preserved
batches-preserved c whole walked =
    let e : List ℕ → List ℕ = encipher c.args.key.now in
    let t : ℕ = c.batches.counter in
    let here : ℕ = c.min-here.result in
    let outputs : List (List ℕ) = take here c.outputs_of-outputs.result in
    let many : length outputs ≡ here = length-take-le here c.outputs_of-outputs.result (omega (arith, c.outputs_of-outputs.ensures.length)) in
    let at : ℕ = c.args.first + BATCH_BLOCKS * c.batches.b in
    let next : ℕ = c.args.first + BATCH_BLOCKS * (c.batches.b + 1) in
    let text : List ℕ = c.xor_blocks.new.text in
    let first : (t + 0) % 2 ^ 128 ≡ t = omega arith in
    stream_on e t (length outputs) BATCH_BLOCKS (at + length outputs) next text whole (omega arith)
    (λ h. omega arith) (λ h. omega arith) (λ h. omega arith)
    (c.xor_blocks.ensures (stream_from e t) whole (stream_from-cons e t outputs c.outputs_of-outputs.ensures.outputs)
    (rw first (c.batches.invariant whole walked)))

pub returns : goal.returns
returns c whole walked =
    walk_end (ctr_blocks (encipher c.args.key.now) c.batches.counter) c.batches.text whole (c.args.first + BATCH_BLOCKS * c.batches.b) refl
    (omega arith) (c.batches.invariant whole walked)
