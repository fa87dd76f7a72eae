use Rattle.std.proofs.Common.{◌≡◌, ℕ, ◌<◌}
use Rattle.mbj_types.specs.Lanes.{lane_at}
use Rattle.mbj_lane.specs.Rounds.{after}
use Rattle.mbj_hmac.specs.Rounds.{compressed_once}
use Rattle.mbj_hmac.specs.Inside.InLanes.{idle, seen_at}
use Rattle.mbj_hmac.proofs.next_blocks.compressed.Given as goal

abbrev pub invariant-passes : goal.invariant-passes
invariant-passes g l = (i : ℕ) → i < g.H.LaneHash.LANES → lane_at 32 l.rests.left i < idle → g.H.LaneHash.lane l.states i
    ≡ (after (compressed_once g.H.LaneHash.hashing) l.done (seen_at (g.H.LaneHash.lane l.initial.states) (g.H.LaneHash.lane l.inner) l.entries i)).chain
