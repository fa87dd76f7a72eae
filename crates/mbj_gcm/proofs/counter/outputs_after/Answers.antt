-- Each counter block is enciphered.
use Rattle.std.proofs.Common.{◌≡◌, ℕ, List, [], ◌++◌, length, take, drop, replicate, get_or, ap, ◌∙◌, arith}
use Rattle.std.proofs.lemmas.List.{get_or_append_left, length-take-le}
use Rattle.mbj_types.specs.Aes.{encipher}
use Rattle.mbj_aes_lanes.specs.declared.narrow.by_fours.TheConstants.{BATCH_BLOCKS}
use Rattle.mbj_gcm.proofs.counter.outputs_after.Goals as goal

pub returns-clause-outputs : goal.returns-clause-outputs
returns-clause-outputs c j lt =
    let zero : ℕ = 0 in
    let zeros : List (List ℕ) = replicate BATCH_BLOCKS (replicate 16 zero) in
    let new : List (List ℕ) = c.encrypt.new.blocks in
    let few : length (take c.args.many zeros) ≡ c.args.many = length-take-le c.args.many zeros c.requires in
    let size : length new ≡ c.args.many = omega (arith, c.encrypt.auto.blocks, c.put_counters_after.auto.blocks, few) in
    get_or_append_left new (drop c.args.many zeros) [] j (omega arith)
    ∙ c.encrypt.ensures.each j (omega (arith, c.encrypt.auto.blocks))
    ∙ ap (encipher c.args.key.now) (c.put_counters_after.ensures j (omega (arith, few)))
