-- The words before word t are those of the schedule.
use Rattle.std.proofs.Common.{◌≡◌, ℕ, ◌<◌, List, length, take}
use Rattle.mbj_types.specs.Lanes.{lane_of}
use Rattle.mbj_sha_lanes.specs.Inside.Windows.{AreScheduled}
use Rattle.mbj_sha_lanes.proofs.scheduled.fill.Given as goal

abbrev pub invariant-words : goal.invariant-words
invariant-words g l =
    (length l.words ≡ g.H.Sha2.standard.count)
    × ((i : ℕ) (b : List ℕ) → i < g.W.Words.LANES → g.H.Sha2.standard.first_words b ≡ take 16 (lane_of g.W.Words.lane l.initial.words i)
    → AreScheduled (lane_of g.W.Words.lane l.words i) (g.H.Sha2.standard.schedule b) l.t)
