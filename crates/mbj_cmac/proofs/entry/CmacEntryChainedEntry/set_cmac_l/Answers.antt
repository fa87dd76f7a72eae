-- The last block is closed by the first subkey.
use Rattle.std.proofs.Common.{ap, ap₂, sym, subst, ◌≡◌, ◌∙◌}
use Rattle.mbj_types.specs.Aes.{encipher}
use Rattle.mbj_types.specs.Cmac.{closed_block, doubled}
use Rattle.mbj_cmac.specs.Inside.Closing.{closed_by}
use Rattle.mbj_cmac.specs.Inside.Sound.{last_part}
use Rattle.mbj_cmac.specs.Rounds.{CmacState}
use Rattle.mbj_cmac.proofs.entry.CmacEntryChainedEntry.set_cmac_l.Goals as goal

pub invariant_of-self : goal.invariant_of-self
invariant_of-self g c = (
  c.self.invariant.0,
  c.self.invariant.1,
  record {
    chain = c.self.invariant.2.chain;
    range = c.self.invariant.2.range;
    small = c.self.invariant.2.small;
    rest = c.self.invariant.2.rest;
    closing = λ t.
        subst (λ (e : CmacState). c.closed_by-last.result ≡ closed_block (encipher e.key) (last_part e)) (sym c.self.view_is)
        (c.closed_by-last.ensures ∙ ap₂ closed_by (c.doubled.ensures ∙ ap doubled c.requires) c.last_part.ensures.part);
  },
)
