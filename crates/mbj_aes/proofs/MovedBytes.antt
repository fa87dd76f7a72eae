-- Bytes of the blocks in vectors of n bytes, which are c blocks, taken from other places of their block.
use Rattle.std.proofs.Common.{◌≡◌, ℕ, ◌+◌, ◌-◌, ◌*◌, ◌/◌, ◌%◌, ◌^◌, ◌<◌, ◌≤◌, ◌==◌, List, ◌++◌, length, map, slice_index, get_or, cond, leb, nat_lt, if◌then◌else◌, w8, Fits, bit_and, refl, sym, ap, subst, ◌∙◌, arith, inl, inr}
use Rattle.std.specs.List.{range_with_len}
use Rattle.std.proofs.Math.Nat.{mod-eq_of_lt, mod-mod}
use Rattle.std.proofs.lemmas.Bool.{cases_lt}
use Rattle.std.proofs.lemmas.Bool.Decides.{nat_tests}
use Rattle.std.proofs.lemmas.Simd.{Each1-get_or, get_or-swz_l, swz_l, SwzOk}
use Rattle.std.specs.Simd.Lanes.{Each1}
use Rattle.mbj_types.specs.Lanes.{lane_at, IsTableIndex}
use Rattle.mbj_types.proofs.Vectors.{look_up_may}
use Rattle.mbj_aes.specs.BlockWords.{block_byte}
use Rattle.mbj_aes.specs.Moves.{byte_or_zero, moved_out}
use Rattle.mbj_aes.proofs.BlockWords.{block_extracted, slice_index-block_with}
use Rattle.mbj_aes.proofs.ByteCases.{at_each, same_at_each, each_below}

module _ (n c : ℕ) (whole : n ≡ 16 * c) (at : List ℕ) (size : length at ≡ n) (each : Each1 (Fits w8) at) where
  -- places that are told by block and byte
  pub taken_may : ((b j : ℕ) → b < c → j < 16 → IsTableIndex (block_byte (lane_at 8) at b j)) → SwzOk w8 16 n 0 at
  taken_may places =
      look_up_may n c whole at size each
      (λ i h.
      let here : 16 * (i / 16) + i % 16 ≡ i = omega arith in
      subst (λ i. IsTableIndex (lane_at 8 at i)) here (places (i / 16) (i % 16) (omega arith) (omega arith)))

  pub taken_at : (xs : List ℕ) (b j : ℕ) → b < c → j < 16
      → block_byte (lane_at 8) (swz_l w8 16 xs 0 at) b j ≡ byte_or_zero (block_byte (lane_at 8) xs b) (block_byte (lane_at 8) at b j)
  taken_at xs b j h k =
      let i : ℕ = 16 * b + j in
      let block : (0 + i) / 16 ≡ b = omega arith in
      let place : slice_index at i % 2 ^ 8 ≡ slice_index at i = mod-eq_of_lt (Each1-get_or (Fits w8) at i 0 (omega arith) each).fits in
      ap (λ y. y % 2 ^ 8)
      (get_or-swz_l w8 16 xs 0 at i (omega arith)
      ∙ ap (λ q. cond (leb 128 (slice_index at i)) 0 (get_or xs (16 * q + slice_index at i) 0)) block)
      ∙ chosen (slice_index at i) (get_or xs (16 * b + slice_index at i) 0)
      ∙ ap (byte_or_zero (block_byte (lane_at 8) xs b)) (sym place)
    where
      chosen : (x y : ℕ) → cond (leb 128 x) 0 y % 2 ^ 8 ≡ (if nat_lt x 128 then y % 2 ^ 8 else 0)
      chosen x y = grind (arith, nat_tests)

-- a block that is taken out of a vector, as a vector
pub extracted_at : (n : ℕ) (xs : List ℕ) (b j : ℕ) → length xs ≡ n → Each1 (Fits w8) xs → 16 * b + 16 ≤ n → j < 16
    → block_byte (lane_at 8) (map (slice_index (xs ++ xs)) (range_with_len (16 * b) 16)) 0 j ≡ block_byte (lane_at 8) xs b j
extracted_at n xs b j size each inside h =
    let here : 16 * 0 + j ≡ j = omega arith in
    ap (lane_at 8 (map (slice_index (xs ++ xs)) (range_with_len (16 * b) 16))) here
    ∙ ap (λ ys. slice_index ys j % 2 ^ 8) (block_extracted n xs b size each inside)
    ∙ ap (λ y. y % 2 ^ 8) (slice_index-block_with (block_byte (lane_at 8) xs b) j h)
    ∙ mod-mod (slice_index xs (16 * b + j)) (2 ^ 8)

-- ---- places of a move

abbrev out_place : ℕ → ℕ → ℕ
out_place by j = bit_and ((j + (128 - by)) % 256) 0x8f

abbrev wanted : ℕ → ℕ → ℕ
wanted by j = if nat_lt j by then 16 - by + j else 128 + (j - by)

out_place_is : (by j : ℕ) → by ≤ 16 → j < 16 → out_place by j ≡ wanted by j
out_place_is by j h k =
    same_at_each (out_place by) (wanted by) 16 j
    (at_each (λ by. each_below (λ j. out_place by j == wanted by j) 16) 17 by refl (omega arith)) k

pub out_index : (by j : ℕ) → by ≤ 16 → j < 16 → IsTableIndex (out_place by j)
out_index by j h k = rw (out_place_is by j h k) (elim (cases_lt j by) [
  | inl below ↦ inl (grind (arith, nat_tests))
  | inr above ↦ inr (grind (arith, nat_tests))
])

pub out_byte : (by j : ℕ) (f : ℕ → ℕ) → by ≤ 16 → j < 16 → byte_or_zero f (out_place by j) ≡ moved_out by f j
out_byte by j f h k = ap (byte_or_zero f) (out_place_is by j h k) ∙ chosen
  where
    chosen : byte_or_zero f (wanted by j) ≡ moved_out by f j
    chosen = grind (arith, nat_tests)
