-- Each block is copied and deciphered.
use Rattle.std.proofs.Common.{◌≡◌, ℕ, List, [], length, take, drop, replicate, ap, ◌∙◌, arith}
use Rattle.std.proofs.lemmas.List.{get_or_append_left, length-take-le}
use Rattle.mbj_types.specs.Aes.{decipher}
use Rattle.mbj_aes_lanes.specs.declared.narrow.by_fours.TheConstants.{BATCH_BLOCKS}
use Rattle.mbj_cbc.proofs.in_place.opened_blocks.Goals as goal

pub returns-clause-opened : goal.returns-clause-opened
returns-clause-opened c j lt =
    let zero : ℕ = 0 in
    let zeros : List (List ℕ) = replicate BATCH_BLOCKS (replicate 16 zero) in
    let new : List (List ℕ) = c.decrypt.new.blocks in
    let few : length (take c.args.many zeros) ≡ c.args.many = length-take-le c.args.many zeros c.requires.batch in
    let size : length new ≡ c.args.many = omega (arith, c.decrypt.auto.blocks, c.copy_blocks.auto.blocks, few) in
    get_or_append_left new (drop c.args.many zeros) [] j (omega arith)
    ∙ c.decrypt.ensures.each j (omega (arith, c.decrypt.auto.blocks))
    ∙ ap (decipher c.args.key.now) (c.copy_blocks.ensures j (omega (arith, few)))
