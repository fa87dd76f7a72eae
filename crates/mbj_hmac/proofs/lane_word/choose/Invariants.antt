use Rattle.std.proofs.Common.{◌≡◌, ℕ, ◌<◌, ◌++◌, length, take, drop, cond, eqb}
use Rattle.mbj_types.specs.Lanes.{lane_of}
use Rattle.mbj_hmac.proofs.lane_word.choose.Given as goal

abbrev pub invariant-vectors : goal.invariant-vectors
invariant-vectors g l = record {
  size : length l.words ≡ length l.initial.words;
  chosen : (i : ℕ) → i < g.V.LaneWord.LANES → lane_of g.V.LaneWord.lane l.words i
      ≡ take l.k (cond (eqb (g.V.LaneWord.lane l.x i) (g.V.LaneWord.lane l.y i)) (lane_of g.V.LaneWord.lane l.same i) (lane_of g.V.LaneWord.lane l.initial.words i))
      ++ drop l.k (lane_of g.V.LaneWord.lane l.initial.words i);
}
