-- One round key more is laid out in each turn.
use Rattle.std.proofs.Common.{◌≡◌, ℕ, ◌+◌, ◌-◌, ◌*◌, ◌/◌, length, map, refl, ap, ◌∙◌, arith}
use Rattle.mbj_types.specs.Lanes.{lane_of}
use Rattle.mbj_types.proofs.LaneLists.{length-lane_of}
use Rattle.mbj_aes.specs.Tower.{from_tower}
use Rattle.mbj_aes_lanes.specs.Inside.Wide.{state_lane, tower_lane}
use Rattle.mbj_aes_lanes.specs.Inside.WideKeys.{key_in}
use Rattle.mbj_aes_lanes.proofs.LaidOut.{none_laid, one_more_laid}
use Rattle.mbj_aes_lanes.proofs.TowerWords.{length-tower_lane, map-part}
use Rattle.mbj_aes_lanes.proofs.WideKeys.{length-state_lane, schedule_in-each}
use Rattle.mbj_aes_lanes.proofs.WideWords.{lane_of-mid}
use Rattle.mbj_aes_lanes.proofs.wide.schedules.lay_out.Goals as goal

pub keys-init : goal.keys-init
keys-init g c i h = none_laid _ 0 _ refl

pub keys-preserved : goal.keys-preserved
unfolding key_in
keys-preserved g c i h =
    let lane = g.V.Lane8.lane in
    let old = c.args.words.now in
    let now = c.keys.words in
    let n : ℕ = length old / 16 - 1 in
    let r : ℕ = c.keys.r in
    let whole : length old ≡ 16 * (n + 1) = omega (arith, c.requires.whole, c.requires.least) in
    let key = c.key_of_tower-key.result in
    one_more_laid n r (lane_of lane old i) (lane_of lane now i) (state_lane lane key i) _
    (length-state_lane lane key i)
    (omega (arith, whole, length-lane_of lane old i))
    (c.key_of_tower-key.ensures i h ∙ ap (map from_tower) (c.state_at.ensures.plain i))
    (lane_of-mid lane now c.put_state.new.words (16 * r) (16 * r + 16 - 16 * r) (16 * r + 16) i (state_lane lane key i) (omega arith) (c.put_state.ensures i))
    (c.keys.invariant i h)

pub returns : goal.returns
returns g c i h =
    let lane = g.V.Lane8.lane in
    let old = c.args.words.now in
    let n : ℕ = length old / 16 - 1 in
    let whole : length old ≡ 16 * (n + 1) = omega (arith, c.requires.whole, c.requires.least) in
    let laid = c.keys.invariant i h in
    let long : length c.keys.words ≡ 16 * (n + 1) = omega (arith, whole) in
    schedule_in-each lane c.keys.words i n long (tower_lane lane old i) (length-tower_lane lane old i ∙ whole)
    (λ r le. laid.done r (omega arith) ∙ map-part from_tower 16 (16 * r) (lane_of lane old i))
