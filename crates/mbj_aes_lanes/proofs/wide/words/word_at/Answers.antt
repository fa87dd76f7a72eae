-- Each lane word, read at its place.
use Rattle.std.proofs.Common.{ℕ, List, ◌+◌, ◌*◌, map, ap, ◌∙◌, arith}
use Rattle.std.proofs.lemmas.List.{length-map}
use Rattle.mbj_types.specs.Lanes.{lane_of}
use Rattle.mbj_types.proofs.LaneLists.{lane_read}
use Rattle.mbj_aes.specs.Tower.{from_tower}
use Rattle.mbj_aes_lanes.proofs.TowerWords.{map-part}
use Rattle.mbj_aes_lanes.proofs.WideWords.{four, word-read}
use Rattle.mbj_aes_lanes.proofs.wide.words.word_at.Goals as goal

pub returns-clause-plain : goal.returns-clause-plain
returns-clause-plain g c k =
    let lane = g.V.Lane8.lane in
    let words = c.args.words.now in
    let at : ℕ = 4 * c.args.i in
    let ys : List ℕ = lane_of lane words k in
    four _ _ _ _ _ _ _ _ (lane_read lane words k at c.index-words-at.result (omega arith) c.index-words-at.is)
    (lane_read lane words k (at + 1) c.index-words-at-2.result (omega arith) c.index-words-at-2.is)
    (lane_read lane words k (at + 2) c.index-words-at-3.result (omega arith) c.index-words-at-3.is)
    (lane_read lane words k (at + 3) c.index-words-at-4.result (omega arith) c.index-words-at-4.is)
    ∙ word-read ys c.args.i (omega (arith, length-map words (λ v. lane v k)))

pub returns-clause-tower : goal.returns-clause-tower
returns-clause-tower g c k =
    ap (map from_tower) (returns-clause-plain g c k) ∙ map-part from_tower 4 (4 * c.args.i) (lane_of g.V.Lane8.lane c.args.words.now k)
