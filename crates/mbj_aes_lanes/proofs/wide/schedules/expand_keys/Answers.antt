-- The words are the bytes of the keys, and zeros.
use Rattle.std.proofs.Common.{◌≡◌, ℕ, ◌+◌, ◌-◌, ◌*◌, ◌≤◌, List, [], length, take, drop, slice_index_or, ap, ◌∙◌, arith}
use Rattle.std.proofs.lemmas.List.{length-take-le, take_at}
use Rattle.mbj_types.specs.Aes.{key_schedule}
use Rattle.mbj_types.specs.Lanes.{lane_at}
use Rattle.mbj_aes_lanes.specs.Inside.Wide.{tower_lane}
use Rattle.mbj_aes_lanes.specs.Inside.WideKeys.{schedule_in}
use Rattle.mbj_aes_lanes.proofs.TowerWords.{tower_lane-take}
use Rattle.mbj_aes_lanes.proofs.WideWords.{IsLaneKey-array}
use Rattle.mbj_aes_lanes.proofs.wide.schedules.expand_keys.Goals as goal

pub returns : goal.returns
returns c i h is =
    let n : ℕ = c.args.rounds in
    let m : ℕ = 16 * (n + 1) in
    let b : List ℕ = slice_index_or c.args.bytes.now i [] in
    let words = c.expand_words.new.words in
    let laid = c.lay_out.new.words in
    let most : m ≤ 240 = grind (arith, c.requires.rounds) in
    let size : length laid ≡ m = omega (arith, most, c.requires.room, c.lay_out.auto.words, length-take-le m words (omega (arith, most, c.requires.room))) in
    let count : m ≡ 16 * (n + 1 - 7 + 7) = grind (arith, c.requires.rounds) in
    let key : n + 1 - 7 ≡ n - 6 = omega arith in
    ap (λ ws. schedule_in (lane_at 8) ws i) (take_at laid (drop m words) m size)
    ∙ c.lay_out.ensures i h
    ∙ tower_lane-take (lane_at 8) m words i
    ∙ ap (λ n. take n (tower_lane (lane_at 8) words i)) count
    ∙ c.expand_words.ensures i (take (4 * (n + 1 - 7)) b) h
    (IsLaneKey-array (n + 1 - 7) b (drop 32 (tower_lane (lane_at 8) c.args.words.now i)) (tower_lane (lane_at 8) c.load_keys.new.words i) (grind (arith, c.requires.rounds)) is.size is.bytes
    (c.load_keys.ensures i h is.size))
    ∙ ap (λ (k : ℕ). key_schedule (take (4 * k) b)) key
