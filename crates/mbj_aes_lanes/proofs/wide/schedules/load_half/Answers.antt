-- The words are the half of each key.
use Rattle.std.proofs.Common.{◌+◌, ◌-◌, List, ℕ, ◌++◌, take, drop, map, refl, ap, ◌∙◌, arith}
use Rattle.mbj_types.specs.Lanes.{lane_at, lane_of}
use Rattle.mbj_aes.specs.Tower.{from_tower}
use Rattle.mbj_aes_lanes.proofs.TowerWords.{map-mid}
use Rattle.mbj_aes_lanes.proofs.WideWords.{lane_of-mid}
use Rattle.mbj_aes_lanes.proofs.wide.schedules.load_half.Goals as goal

pub returns : goal.returns
returns c i h =
    let lane : List ℕ → ℕ → ℕ = lane_at 8 in
    let start : ℕ = c.args.start in
    let ys : List ℕ = lane_of lane c.args.words.now i in
    let half : List ℕ = lane_of lane c.put_in_tower.new.words i in
    ap (map from_tower) (lane_of-mid lane c.args.words.now c.put_in_tower.new.words start (start + 16 - start) (start + 16) i half (omega arith) refl)
    ∙ map-mid from_tower start (start + 16) ys half
    ∙ ap (λ b. take start (map from_tower ys) ++ b ++ drop (start + 16) (map from_tower ys)) (c.put_in_tower.ensures i h)
