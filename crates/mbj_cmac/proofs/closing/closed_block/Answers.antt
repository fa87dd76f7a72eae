-- The first subkey is that of the key.
use Rattle.std.proofs.Common.{ap, ◌∙◌}
use Rattle.mbj_cmac.specs.Inside.Closing.{closed_by}
use Rattle.mbj_cmac.proofs.closing.closed_block.Goals as goal

pub returns : goal.returns
returns c = c.closed_by.ensures ∙ ap (λ k. closed_by k c.args.last.now) c.first_subkey.ensures
