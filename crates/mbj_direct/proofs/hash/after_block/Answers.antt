-- It is what the hash has then.
use Rattle.std.proofs.Common.{ap, ◌∙◌}
use Rattle.mbj_ghash.specs.State.{HashState}
use Rattle.mbj_direct.proofs.hash.after_block.Goals as goal

pub returns : goal.returns
returns c = c.value.ensures.value ∙ ap (λ (s : HashState). s.value) c.resumed.ensures
