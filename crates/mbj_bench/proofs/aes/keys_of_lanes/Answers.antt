-- Full lanes stay full.
use Rattle.std.proofs.Common.{ℕ, ◌-◌, ◌/◌, ap, subst, sym, ◌∙◌}
use Rattle.mbj_aes_lanes.specs.KeyLanes.{IsFull}
use Rattle.mbj_aes_lanes.proofs.FullLanes.{IsFull-same, IsFull-with_key}
use Rattle.mbj_bench.proofs.aes.keys_of_lanes.Goals as goal

pub lanes-init : goal.lanes-init
lanes-init c = (
  ap (λ k. k.rounds) c.all-keys.ensures ∙ ap (λ (n : ℕ). n / 16 - 1) c.schedule_from.ensures,
  IsFull-same c.all-keys.result c.schedule_from.result c.all-keys.ensures,
)

pub lanes-preserved : goal.lanes-preserved
lanes-preserved c = (
  ap (λ k. k.rounds) c.put.ensures ∙ c.lanes.invariant.0,
  subst IsFull (sym c.put.ensures) (IsFull-with_key c.lanes.keys _ _ c.lanes.invariant.1),
)
