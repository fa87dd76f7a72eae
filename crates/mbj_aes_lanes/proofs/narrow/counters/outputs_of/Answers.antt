-- Each counter is enciphered.
use Rattle.std.proofs.Common.{◌≡◌, ℕ, ◌<◌, ◌++◌, List, [], length, take, drop, replicate, get_or, subst, ap, ◌∙◌, arith}
use Rattle.std.proofs.lemmas.List.{take_at, length-take-le}
use Rattle.mbj_types.specs.Aes.{encipher}
use Rattle.mbj_aes_lanes.specs.declared.narrow.by_fours.TheConstants.{BATCH_BLOCKS}
use Rattle.mbj_aes_lanes.proofs.narrow.counters.outputs_of.Goals as goal

pub returns-clause-outputs : goal.returns-clause-outputs
returns-clause-outputs c j lt =
    let zero : ℕ = 0 in
    let zeros : List (List ℕ) = replicate BATCH_BLOCKS (replicate 16 zero) in
    let rest : List (List ℕ) = drop c.args.many zeros in
    let new : List (List ℕ) = c.encrypt.new.blocks in
    let few : length (take c.args.many zeros) ≡ c.args.many = length-take-le c.args.many zeros c.requires in
    let size : length new ≡ c.args.many = omega (arith, c.encrypt.auto.blocks, c.put_counters.auto.blocks, few) in
    let all : take c.args.many (new ++ rest) ≡ new = take_at new rest c.args.many size in
    let below : j < length new = subst (λ bs. j < length bs) all lt in
    ap (λ bs. get_or bs j []) all
    ∙ c.encrypt.ensures.each j (omega (arith, c.encrypt.auto.blocks))
    ∙ ap (encipher c.args.key.now) (c.put_counters.ensures j (omega (arith, c.encrypt.auto.blocks, c.put_counters.auto.blocks)))
