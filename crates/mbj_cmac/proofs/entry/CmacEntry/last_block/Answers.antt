-- It was closed, or is closed now.
use Rattle.std.proofs.Common.{ap, ap₂, ◌∙◌}
use Rattle.mbj_types.specs.Aes.{encipher}
use Rattle.mbj_types.specs.Cmac.{closed_block}
use Rattle.mbj_cmac.specs.Rounds.{CmacState}
use Rattle.mbj_cmac.proofs.entry.CmacEntry.last_block.Goals as goal

pub returns-then-self : goal.returns-then-self
returns-then-self g c = rw (← c.self.view_is) (c.self.invariant.2.closing c.if-self.true)

pub returns-else-self : goal.returns-else-self
returns-else-self g c =
    c.closed_block.ensures
    ∙ ap₂ (λ k p. closed_block (encipher k) p) (c.schedule_of_bytes.ensures.schedule ∙ ap (λ (e : CmacState). e.key) c.self.view_is) c.last_part.ensures.part
