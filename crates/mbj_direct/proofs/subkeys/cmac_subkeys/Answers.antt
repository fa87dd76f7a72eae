-- K2 is K1 doubled.
use Rattle.std.proofs.Common.{ap, ◌∙◌}
use Rattle.mbj_types.specs.Cmac.{doubled}
use Rattle.mbj_direct.proofs.subkeys.cmac_subkeys.Goals as goal

pub returns-clause-second : goal.returns-clause-second
returns-clause-second c = c.doubled.ensures ∙ ap doubled c.first_subkey-first.ensures
