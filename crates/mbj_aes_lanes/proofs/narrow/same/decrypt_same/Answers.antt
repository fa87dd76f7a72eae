-- Each block is changed.
use Rattle.std.proofs.Common.{[], length, get_or, ap, ◌∙◌, arith}
use Rattle.std.proofs.lemmas.List.{get_or_default}
use Rattle.mbj_types.specs.Aes.{decipher}
use Rattle.mbj_aes_lanes.proofs.ListParts.{changed_list}
use Rattle.mbj_aes_lanes.proofs.narrow.same.decrypt_same.Goals as goal

pub returns-clause-each : goal.returns-clause-each
returns-clause-each c =
    changed_list (decipher c.args.key.now) c.args.blocks.now c.decrypt.new.blocks c.decrypt.auto.blocks
    (λ i h. c.decrypt.ensures.each i h ∙ ap (λ w. decipher w (get_or c.args.blocks.now i [])) c.new.ensures)

pub returns-clause-lengths : goal.returns-clause-lengths
returns-clause-lengths c k d lt =
    ap length (get_or_default c.decrypt.new.blocks k d [] lt) ∙ c.decrypt.ensures.lengths k (omega (arith, c.decrypt.auto.blocks))
