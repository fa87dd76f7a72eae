-- The hash takes the part.
use Rattle.std.proofs.Common.{[], ◌∙◌}
use Rattle.mbj_direct.proofs.gmac.GmacState.update.Goals as goal

pub returns-clause-taken : goal.returns-clause-taken
returns-clause-taken c key iv aad h = record {
  mask = h.mask;
  subkey = c.take.ensures.subkey ∙ h.subkey;
  hashed = c.take.ensures.hashed [] aad h.hashed;
}
