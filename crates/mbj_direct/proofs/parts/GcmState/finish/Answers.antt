-- The hash is masked.
use Rattle.std.proofs.Common.{◌∙◌}
use Rattle.mbj_direct.proofs.Taken.{tag_is}
use Rattle.mbj_direct.proofs.parts.GcmState.finish.Goals as goal

pub returns-clause-tag : goal.returns-clause-tag
returns-clause-tag c key iv aad text sealing h =
    c.xor_in_place.ensures
    ∙ tag_is key iv aad text sealing c.args.self.now c.text_key.result c.enciphered-tag.result c.value.result
    c.text_key.ensures.schedule c.text_key.ensures.length h c.enciphered-tag.ensures c.value.ensures
