-- In each lane the rounds before r are done.
use Rattle.std.proofs.Common.{◌≡◌, ℕ, ◌<◌, ◌-◌}
use Rattle.mbj_types.specs.Aes.{after_rounds}
use Rattle.mbj_aes_lanes.specs.Inside.Wide.{state_lane, tower_block}
use Rattle.mbj_aes_lanes.proofs.wide.rounds.encrypt.Given as goal

abbrev pub invariant-rounds : goal.invariant-rounds
invariant-rounds g l =
    let lane = g.V.Lane8.lane in
    (i : ℕ) → i < g.V.Lane8.LANES
    → tower_block lane l.state i ≡ after_rounds (g.K.LaneSchedules.schedule_of l.keys i) (state_lane lane l.fn.s i) (l.r - 1)
