-- Full lanes stay full.
use Rattle.std.proofs.Common.{◌≡◌, ℕ, ◌+◌, ◌-◌, ◌/◌, ap, subst, sym, ◌∙◌, length, arith}
use Rattle.mbj_aes_lanes.specs.KeyLanes.{IsFull}
use Rattle.mbj_aes_lanes.proofs.FullLanes.{IsFull-same, IsFull-with_key}
use Rattle.mbj_job_tests.proofs.own_keys.own_keys.Goals as goal

pub lanes-init : goal.lanes-init
lanes-init c =
    let rounds : length c.schedule_of.result / 16 - 1 ≡ c.args.key_bytes / 4 + 6 = omega (arith, c.schedule_of.ensures) in (
      ap (λ k. k.rounds) c.all-keys.ensures ∙ rounds,
      IsFull-same c.all-keys.result c.schedule_of.result c.all-keys.ensures,
    )

pub lanes-preserved : goal.lanes-preserved
lanes-preserved c = (
  ap (λ k. k.rounds) c.put.ensures ∙ c.lanes.invariant.0,
  subst IsFull (sym c.put.ensures) (IsFull-with_key c.lanes.keys _ _ c.lanes.invariant.1),
)
