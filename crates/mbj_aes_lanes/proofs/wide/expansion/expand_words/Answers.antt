-- One word more is that of each schedule in each turn.
use Rattle.std.proofs.Common.{◌≡◌, ℕ, List, ◌+◌, ◌-◌, ◌*◌, ◌<◌, ◌≤◌, ◌++◌, map, take, drop, ap, ◌∙◌, sym, arith}
use Rattle.std.proofs.lemmas.List.{take_at, take-append-drop}
use Rattle.mbj_types.specs.Aes.{schedule}
use Rattle.mbj_types.specs.Lanes.{lane_of}
use Rattle.mbj_aes.proofs.KeyLists.{IsSchedule, IsSchedule-schedule}
use Rattle.mbj_aes.proofs.KeyWords.{schedule-next, schedule-none}
use Rattle.mbj_aes.specs.Tower.{from_tower}
use Rattle.mbj_aes_lanes.specs.Inside.Wide.{word_lane, tower_lane}
use Rattle.mbj_aes_lanes.proofs.TowerWords.{map-mid}
use Rattle.mbj_aes_lanes.proofs.WideWords.{key_schedule-words}
use Rattle.mbj_aes_lanes.proofs.wide.expansion.expand_words.Goals as goal

pub words-init : goal.words-init
words-init g c k key h is =
    let n : ℕ = 4 * c.args.key_words in
    let ys : List ℕ = tower_lane g.V.Lane8.lane c.args.words.now k in
    (drop n ys, sym (take-append-drop n ys) ∙ ap (λ w. w ++ drop n ys) (is.first ∙ sym (schedule-none c.args.key_words key)))

pub words-preserved : goal.words-preserved
words-preserved g c k key h is =
    let nk : ℕ = c.args.key_words in
    let i : ℕ = c.words.i in
    let ys : List ℕ = tower_lane g.V.Lane8.lane c.words.words k in
    let so_far = c.words.invariant k key h is in
    let some : 1 ≤ nk = grind (arith, c.requires.key) in
    let last : i < 4 * (nk + 7) = omega (arith, c.words-test.true) in (
      drop 4 so_far.0,
      ap (map from_tower) (c.put_word.ensures k)
          ∙ map-mid from_tower (4 * i) (4 * i + 4) (lane_of g.V.Lane8.lane c.words.words k) (word_lane g.V.Lane8.lane c.next_word-word.result k)
          ∙ ap (λ x. take (4 * i) ys ++ x ++ drop (4 * i + 4) ys) (c.next_word-word.ensures k h)
          ∙ schedule-next nk i key ys so_far.0 some (omega arith) is.size is.bytes so_far.1,
    )

pub returns : goal.returns
returns g c k key h is =
    let nk : ℕ = c.args.key_words in
    let i : ℕ = c.words.i in
    let w : List ℕ = schedule nk key (i - nk) in
    let so_far = c.words.invariant k key h is in
    let some : 1 ≤ nk = grind (arith, c.requires.key) in
    let whole : IsSchedule (nk + (i - nk)) w = IsSchedule-schedule nk key (i - nk) some is.size is.bytes in
    let end : i ≡ 4 * (nk + 7) = omega arith in
    ap (take (16 * (nk + 7))) so_far.1
    ∙ take_at w so_far.0 (16 * (nk + 7)) (omega (arith, whole.size))
    ∙ ap (λ n. schedule nk key (n - nk)) end
    ∙ key_schedule-words nk key is.size
