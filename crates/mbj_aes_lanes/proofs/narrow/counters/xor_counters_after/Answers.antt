-- The first mask is the answer, the first blocks take the others of its batch, and the rest follows.
use Rattle.std.proofs.Common.{◌≡◌, ℕ, ◌+◌, ◌-◌, ◌%◌, ◌^◌, ◌<◌, ◌≤◌, List, [], length, take, drop, sym, subst, ap, ◌∙◌, arith, length-drop}
use Rattle.std.specs.List.{concat}
use Rattle.std.specs.Int.{w128, to_be_bytes}
use Rattle.std.proofs.lemmas.List.{get_or-take, get_or-drop, length-take-le}
use Rattle.mbj_types.specs.Aes.{encipher}
use Rattle.mbj_types.specs.Blocks.{blocks}
use Rattle.mbj_types.specs.Modes.{ctr_blocks}
use Rattle.mbj_blocks.specs.Walked.{Walked}
use Rattle.mbj_aes_lanes.specs.declared.narrow.by_fours.TheConstants.{BATCH_BLOCKS}
use Rattle.mbj_aes_lanes.specs.Inside.KeyStream.{IsKeyStream}
use Rattle.mbj_aes_lanes.proofs.KeyStreams.{stream_from, stream_from-cons, stream_on}
use Rattle.mbj_aes_lanes.proofs.narrow.counters.xor_counters_after.Goals as goal

-- the outputs behind the first of n + 1, which are the key stream of the next counters
behind_first : (e : List ℕ → List ℕ) (t n m : ℕ) (outputs : List (List ℕ)) → m ≡ n → n + 1 ≤ length outputs → IsKeyStream e t (take (n + 1) outputs)
    → IsKeyStream e ((t + 1) % 2 ^ 128) (take m (drop 1 outputs))
behind_first e t n m outputs same long all j lt =
    let inside : j < n = omega (arith, length-take-le m (drop 1 outputs) (omega (arith, length-drop 1 outputs))) in
    let place : (t + (1 + j)) % 2 ^ 128 ≡ ((t + 1) % 2 ^ 128 + j) % 2 ^ 128 = omega arith in
    get_or-take m (drop 1 outputs) j [] (omega arith)
    ∙ get_or-drop 1 outputs j []
    ∙ sym (get_or-take (n + 1) outputs (1 + j) [] (omega arith))
    ∙ all (1 + j) (omega (arith, length-take-le (n + 1) outputs long))
    ∙ ap (λ (u : ℕ). e (to_be_bytes w128 u)) place

pub returns-clause-mask : goal.returns-clause-mask
returns-clause-mask c =
    let n : ℕ = c.min-here.result + 1 in
    let outputs : List (List ℕ) = c.outputs_of-outputs.result in
    let long : n ≤ length outputs = omega (arith, c.outputs_of-outputs.ensures.length) in
    let first : (c.args.counter + 0) % 2 ^ 128 ≡ c.args.counter = omega (arith, c.ranges.counter.fits) in
    sym (get_or-take n outputs 0 [] (omega arith))
    ∙ c.outputs_of-outputs.ensures.outputs 0 (omega (arith, length-take-le n outputs long))
    ∙ ap (λ (u : ℕ). encipher c.new-key.result (to_be_bytes w128 u)) first
    ∙ ap (λ w. encipher w (to_be_bytes w128 c.args.counter)) c.new-key.ensures

pub returns-clause-text : goal.returns-clause-text
returns-clause-text c =
    let e : List ℕ → List ℕ = encipher c.args.key.now in
    let t : ℕ = (c.args.counter + 1) % 2 ^ 128 in
    let text : List ℕ = c.args.text.now in
    let now : List ℕ = c.xor_blocks.new.text in
    let here : ℕ = c.min-here.result in
    let all : List (List ℕ) = c.outputs_of-outputs.result in
    let n : ℕ = here + 1 - 1 in
    let outputs : List (List ℕ) = take n (drop 1 all) in
    let long : here + 1 ≤ length all = omega (arith, c.outputs_of-outputs.ensures.length) in
    let many : length outputs ≡ here = length-take-le n (drop 1 all) (omega (arith, length-drop 1 all, long)) ∙ omega arith in
    let stream = rw c.new-key.ensures at c.outputs_of-outputs.ensures.outputs in
    let known : IsKeyStream e t outputs = behind_first e c.args.counter here n all (omega arith) long stream in
    let whole : List ℕ = concat (ctr_blocks e t (blocks text)) in
    let first : (t + 0) % 2 ^ 128 ≡ t = omega arith in
    let next : (t + (BATCH_BLOCKS - 1)) % 2 ^ 128 ≡ (c.args.counter + BATCH_BLOCKS) % 2 ^ 128 = omega arith in
    let walked : Walked (stream_from e t (length outputs)) now (0 + length outputs) whole =
    c.xor_blocks.ensures (stream_from e t) whole (stream_from-cons e t outputs known)
    (ap (λ (u : ℕ). concat (ctr_blocks e u (blocks text))) first) in
    c.xor_from.ensures whole
    (subst (λ w. Walked (ctr_blocks (encipher w) ((c.args.counter + BATCH_BLOCKS) % 2 ^ 128)) now here whole) (sym c.new-key.ensures)
    (rw next at
    (stream_on e t (length outputs) (BATCH_BLOCKS - 1) (0 + length outputs) here now whole (omega arith) (λ h. omega arith)
    (λ h. omega (arith, c.xor_blocks.auto.text)) (λ h. omega (arith, c.xor_blocks.auto.text)) walked)))
