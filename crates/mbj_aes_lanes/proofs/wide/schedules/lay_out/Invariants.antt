-- The round keys before the next one are laid out.
use Rattle.std.proofs.Common.{ℕ, ◌-◌, ◌/◌, ◌<◌, length}
use Rattle.mbj_types.specs.Lanes.{lane_of}
use Rattle.mbj_aes_lanes.proofs.LaidOut.{AreLaid}
use Rattle.mbj_aes_lanes.proofs.wide.schedules.lay_out.Given as goal

abbrev pub invariant-keys : goal.invariant-keys
invariant-keys g l =
    let lane = g.V.Lane8.lane in
    (i : ℕ) → i < g.V.Lane8.LANES
    → AreLaid (length l.initial.words / 16 - 1) (lane_of lane l.initial.words i) (lane_of lane l.words i) l.r
