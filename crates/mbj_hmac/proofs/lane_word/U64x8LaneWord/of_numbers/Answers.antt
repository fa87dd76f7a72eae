use Rattle.std.proofs.Common.{◌≡◌, ◌++◌, ◌%◌, ◌^◌, ◌<◌, length, take, get_or, w32, sym, ap, ◌∙◌, arith}
use Rattle.std.specs.Simd.Lanes.{pick_l}
use Rattle.std.specs.List.{range_with_len}
use Rattle.std.proofs.Math.Nat.{mod-eq_of_lt}
use Rattle.std.proofs.lemmas.List.{get_or-take}
use Rattle.std.proofs.lemmas.Simd.{pick_l_left, pick_l-range_with_len}
use Rattle.mbj_types.specs.Lanes.{lane_at, lane_at-lt}
use Rattle.mbj_hmac.proofs.Vectors.{lane_is}
use Rattle.mbj_hmac.proofs.lane_word.U64x8LaneWord.of_numbers.Goals as goal

pub returns : goal.returns
returns c i h =
    let v = c.args.numbers in
    let size : length v ≡ 16 = c.fits-numbers.0 in
    let low : pick_l 0 (v ++ v) (range_with_len 0 8) ≡ take 8 v =
    pick_l_left 0 v v 16 (range_with_len 0 8) size tt ∙ pick_l-range_with_len 0 v 0 8 (omega (arith, size)) in
    let here : lane_at 32 v i ≡ get_or v i 0 = lane_is w32 v 16 i size c.fits-numbers.1 (omega arith) in
    let fits : get_or v i 0 < 2 ^ 64 = omega (arith, here, lane_at-lt 32 v i) in
    ap (λ xs. get_or xs i 0 % 2 ^ 64) low ∙ ap (λ x. x % 2 ^ 64) (get_or-take 8 v i 0 h) ∙ mod-eq_of_lt fits ∙ sym here
