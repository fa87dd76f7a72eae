-- The words before the next one are those of the schedules.
use Rattle.std.proofs.Common.{◌≡◌, ℕ, ◌-◌, ◌<◌, List, ◌++◌}
use Rattle.mbj_types.specs.Aes.{schedule}
use Rattle.mbj_aes_lanes.specs.Inside.Wide.{tower_lane}
use Rattle.mbj_aes_lanes.specs.Inside.WideKeys.{IsLaneKey}
use Rattle.mbj_aes_lanes.proofs.wide.expansion.expand_words.Given as goal

abbrev pub invariant-words : goal.invariant-words
invariant-words g l =
    (k : ℕ) (key : List ℕ) → k < g.V.Lane8.LANES → IsLaneKey l.key_words key (tower_lane g.V.Lane8.lane l.initial.words k)
    → (rest : List ℕ) × (tower_lane g.V.Lane8.lane l.words k ≡ schedule l.key_words key (l.i - l.key_words) ++ rest)
