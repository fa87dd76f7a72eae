use Rattle.std.proofs.Common.{◌≡◌, ℕ, ◌-◌, ◌<◌, ◌≤◌}
use Rattle.mbj_types.specs.Lanes.{lane_at}
use Rattle.mbj_lane.specs.Rounds.{after}
use Rattle.mbj_hmac.specs.Rounds.{round}
use Rattle.mbj_hmac.specs.Inside.InLanes.{AreReady, AreTied, idle, lowered, most_lanes, seen_at}
use Rattle.mbj_hmac.proofs.lanes.HmacLanes.run.Given as goal

abbrev pub invariant-loop-left : goal.invariant-loop-left
invariant-loop-left g l = record {
  within : l.left ≤ l.m;
  tied : AreTied l.self.rests.left l.self.rests.turns l.entries;
  ready : AreReady g.H.LaneHash.hashing (g.H.LaneHash.lane l.self.starts) l.self.rests.bits l.self.rests.left l.entries;
  rests : (i : ℕ) → i < most_lanes → lane_at 32 l.self.rests.left i ≡ lowered (l.m - l.left) (lane_at 32 l.initial.self.rests.left i);
  advanced : (i : ℕ) → i < most_lanes → lane_at 32 l.initial.self.rests.left i < idle
      → seen_at (g.H.LaneHash.lane l.self.states) (g.H.LaneHash.lane l.self.inner) l.entries i
      ≡ after (round g.H.LaneHash.hashing) (l.m - l.left)
      (seen_at (g.H.LaneHash.lane l.initial.self.states) (g.H.LaneHash.lane l.initial.self.inner) l.initial.entries i);
}

abbrev pub decreases-loop-left : goal.decreases-loop-left
decreases-loop-left g l = l.left
