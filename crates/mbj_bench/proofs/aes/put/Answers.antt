-- Full lanes stay full.
use Rattle.std.proofs.Common.{ℕ, ◌-◌, ◌/◌, ap, subst, sym, ◌∙◌}
use Rattle.mbj_aes_lanes.specs.KeyLanes.{IsFull}
use Rattle.mbj_aes_lanes.proofs.FullLanes.{IsFull-same, IsFull-with_key}
use Rattle.mbj_bench.proofs.aes.put.Goals as goal

pub turns-init : goal.turns-init
turns-init c = (
  ap (λ k. k.rounds) c.all-keys.ensures ∙ ap (λ (n : ℕ). n / 16 - 1) c.schedule_from-key.ensures,
  IsFull-same c.all-keys.result c.schedule_from-key.result c.all-keys.ensures,
)

pub turns-preserved : goal.turns-preserved
turns-preserved c = (
  ap (λ k. k.rounds) c.put.ensures ∙ c.turns.invariant.0,
  subst IsFull (sym c.put.ensures) (IsFull-with_key c.turns.keys _ _ c.turns.invariant.1),
)
