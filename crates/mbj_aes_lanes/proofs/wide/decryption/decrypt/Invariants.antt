-- In each lane, undoing the rounds that are left gives the deciphered block.
use Rattle.std.proofs.Common.{◌≡◌, ℕ, ◌-◌, ◌<◌}
use Rattle.mbj_types.specs.Aes.{undone_rounds, decipher}
use Rattle.mbj_aes_lanes.specs.Inside.Wide.{state_lane}
use Rattle.mbj_aes_lanes.proofs.wide.decryption.decrypt.Given as goal

abbrev pub invariant-rounds : goal.invariant-rounds
invariant-rounds g l =
    let lane = g.V.Lane8.lane in
    (i : ℕ) → i < g.V.Lane8.LANES
    → undone_rounds (g.K.LaneSchedules.schedule_of l.keys i) (state_lane lane l.state i) (l.r - 1)
    ≡ decipher (g.K.LaneSchedules.schedule_of l.keys i) (state_lane lane l.fn.s i)
