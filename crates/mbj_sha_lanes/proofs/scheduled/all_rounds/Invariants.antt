use Rattle.std.proofs.Common.{◌≡◌, ℕ, ◌*◌, ◌<◌, List}
use Rattle.mbj_types.specs.Lanes.{lane_of}
use Rattle.mbj_sha_lanes.specs.Sha2.{working_lane}
use Rattle.mbj_sha_lanes.specs.Inside.Windows.{AreScheduled}
use Rattle.mbj_sha_lanes.proofs.scheduled.all_rounds.Given as goal

abbrev pub invariant-turns : goal.invariant-turns
invariant-turns g l =
    let lane = g.W.Words.lane in let f = g.H.Sha2.standard in
    (i : ℕ) (b : List ℕ) → i < g.W.Words.LANES → AreScheduled (lane_of lane l.fn.words i) (f.schedule b) f.count
    → working_lane lane l.v i ≡ f.rounds (working_lane lane l.fn.start i) (f.schedule b) (8 * l.turn)
