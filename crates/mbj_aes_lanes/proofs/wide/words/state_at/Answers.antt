-- The four words are the round key.
use Rattle.std.proofs.Common.{ℕ, List, ◌*◌, ◌++◌, map, ap, ap₂, ◌∙◌}
use Rattle.mbj_types.specs.Lanes.{lane_of}
use Rattle.mbj_aes.specs.Tower.{from_tower}
use Rattle.mbj_aes_lanes.specs.Inside.Wide.{state_lane}
use Rattle.mbj_aes_lanes.proofs.TowerWords.{map-part}
use Rattle.mbj_aes_lanes.proofs.WideWords.{words-round_key}
use Rattle.mbj_aes_lanes.proofs.wide.words.state_at.Goals as goal

pub returns-clause-plain : goal.returns-clause-plain
unfolding state_lane
returns-clause-plain g c i =
    let ys : List ℕ = lane_of g.V.Lane8.lane c.args.words.now i in
    let join : List ℕ → List ℕ → List ℕ = λ xs ys. xs ++ ys in
    ap₂ join (ap₂ join (ap₂ join (c.word_at.ensures.plain i) (c.word_at-2.ensures.plain i)) (c.word_at-3.ensures.plain i)) (c.word_at-4.ensures.plain i)
    ∙ words-round_key ys c.args.r

pub returns-clause-tower : goal.returns-clause-tower
returns-clause-tower g c i =
    ap (map from_tower) (returns-clause-plain g c i) ∙ map-part from_tower 16 (16 * c.args.r) (lane_of g.V.Lane8.lane c.args.words.now i)
