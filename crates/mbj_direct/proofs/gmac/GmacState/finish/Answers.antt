-- The hash is masked.
use Rattle.std.proofs.Common.{◌∙◌}
use Rattle.mbj_direct.proofs.Cuttings.{data_tag_is}
use Rattle.mbj_direct.proofs.gmac.GmacState.finish.Goals as goal

pub returns-clause-tag : goal.returns-clause-tag
returns-clause-tag c key iv aad h =
    c.xor_in_place.ensures ∙ data_tag_is key iv aad c.args.self.now c.value_of_data.result h (λ xs taken. c.value_of_data.ensures xs taken)
