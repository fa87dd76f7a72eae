use Rattle.std.proofs.Common.{◌≡◌, ℕ, ◌<◌, ◌≤◌}
use Rattle.mbj_types.specs.Lanes.{lane_at}
use Rattle.mbj_hmac.specs.Inside.InLanes.{IsReady, entry_in, idle, most_lanes, turn_of}
use Rattle.mbj_hmac.proofs.lanes.HmacLanes.of.Given as goal

abbrev pub invariant-lanes : goal.invariant-lanes
invariant-lanes g l = record {
  few : (j : ℕ) → j < l.i → lane_at 32 l.lanes.rests.left j < idle;
  rests : (j : ℕ) → j < l.i → lane_at 32 l.lanes.rests.left j ≡ (entry_in l.entries j).rest;
  turns : (j : ℕ) → j < l.i → lane_at 32 l.lanes.rests.turns j ≡ turn_of (entry_in l.entries j);
  chains : (j : ℕ) → j < l.i → g.H.LaneHash.lane l.lanes.states j ≡ (entry_in l.entries j).chain;
  inners : (j : ℕ) → j < l.i → g.H.LaneHash.lane l.lanes.inner j ≡ (entry_in l.entries j).inner;
  ready : (j : ℕ) → j < l.i → IsReady g.H.LaneHash.hashing (g.H.LaneHash.lane l.lanes.starts j) (lane_at 32 l.lanes.rests.bits j) (entry_in l.entries j);
  left : (j : ℕ) → j < most_lanes → l.i ≤ j → lane_at 32 l.lanes.rests.left j ≡ idle;
}
