use Rattle.std.proofs.Common.{◌≡◌, ◌++◌, length, take, drop, min, take_all, length-drop, refl, ap₂, ◌∙◌, arith}
use Rattle.std.specs.Simd.Lanes.{pick_l, zip2}
use Rattle.std.specs.List.{range_with_len}
use Rattle.std.proofs.lemmas.Simd.{pick_l_left, pick_l-range_with_len}
use Rattle.mbj_hmac.proofs.Vectors.{lesser}
use Rattle.mbj_hmac.proofs.rests.lesser_half.Goals as goal

pub returns : goal.returns
returns c =
    let v = c.args.words in
    let size : length v ≡ 16 = c.fits-words.0 in
    let low : pick_l 0 (v ++ v) (range_with_len 0 8) ≡ take 8 v =
    pick_l_left 0 v v 16 (range_with_len 0 8) size tt ∙ pick_l-range_with_len 0 v 0 8 (omega (arith, size)) in
    let high : pick_l 0 (v ++ v) (range_with_len 8 8) ≡ drop 8 v =
    pick_l_left 0 v v 16 (range_with_len 8 8) size tt ∙ pick_l-range_with_len 0 v 8 8 (omega (arith, size))
    ∙ take_all 8 (drop 8 v) (omega (arith, size, length-drop 8 v)) in
    lesser (pick_l 0 (v ++ v) (range_with_len 0 8)) (pick_l 0 (v ++ v) (range_with_len 8 8)) refl ∙ ap₂ (zip2 min) low high
