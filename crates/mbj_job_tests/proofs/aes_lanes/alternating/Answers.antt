-- Full lanes stay full.
use Rattle.std.proofs.Common.{ℕ, ◌-◌, ◌/◌, ap, subst, sym, ◌∙◌}
use Rattle.mbj_aes_lanes.specs.KeyLanes.{IsFull}
use Rattle.mbj_aes_lanes.proofs.FullLanes.{IsFull-same, IsFull-with_key}
use Rattle.mbj_job_tests.proofs.aes_lanes.alternating.Goals as goal

pub lanes-init : goal.lanes-init
lanes-init c = (
  ap (λ k. k.rounds) c.all-keys.ensures ∙ ap (λ (n : ℕ). n / 16 - 1) c.requires.odd,
  IsFull-same c.all-keys.result c.args.odd.now c.all-keys.ensures,
)

pub lanes-preserved : goal.lanes-preserved
lanes-preserved c = (
  ap (λ k. k.rounds) c.put.ensures ∙ c.lanes.invariant.0,
  subst IsFull (sym c.put.ensures) (IsFull-with_key c.lanes.keys _ _ c.lanes.invariant.1),
)
