-- States of 16 bytes, and what each step of a round makes of them.
use Rattle.std.proofs.Common.{◌≡◌, ℕ, ◌<◌, nat_lt, true, List, [], ◌∷◌, length, map, slice_index, slice_index_or, refl, arith}
use Rattle.std.specs.List.{list_all}
use Rattle.std.proofs.lemmas.Bool.{ltb-true}
use Rattle.std.proofs.lemmas.List.Elements.{All-map, All-from_get_or}
use Rattle.std.proofs.lemmas.List.Sums.{AllPass-from_list_all}
use Rattle.mbj_types.specs.Aes.{shift_rows, inv_shift_rows}
use Rattle.mbj_aes.specs.Bytes.{IsBytes, IsBlock}

-- what is told of an array of bytes: each read is a byte
pub IsBytes-told : (xs : List ℕ) → ((i : ℕ) → slice_index xs i < 256) → IsBytes xs
IsBytes-told xs h = All-from_get_or (λ x. x < 256) xs 0 (λ i below. h i)

-- 16 bytes by their places, and back
pub IsBlock-told : (s : List ℕ) → length s ≡ 16 → ((i : ℕ) → i < 16 → slice_index s i < 256) → IsBlock s
IsBlock-told s size h =
    record { size = size; bytes = All-from_get_or (λ x. x < 256) s 0 (λ i below. h i (omega (arith, size))) }

pub IsBlock-byte : (s : List ℕ) → IsBlock s → (i : ℕ) → i < 16 → slice_index s i < 256
IsBlock-byte s b i h =
    let size : length s ≡ 16 = b.size in
    b.bytes i 0 (omega arith)

-- ---- bytes by their places

-- the bytes of s at these places
abbrev pub picked : List ℕ → List ℕ → List ℕ
picked s places = map (slice_index s) places

abbrev pub all_places : List ℕ
all_places = 0 ∷ 1 ∷ 2 ∷ 3 ∷ 4 ∷ 5 ∷ 6 ∷ 7 ∷ 8 ∷ 9 ∷ 10 ∷ 11 ∷ 12 ∷ 13 ∷ 14 ∷ 15 ∷ []

-- a state is its bytes one by one
pub picked-all : (s : List ℕ) → length s ≡ 16 → picked s all_places ≡ s
picked-all (x0 ∷ x1 ∷ x2 ∷ x3 ∷ x4 ∷ x5 ∷ x6 ∷ x7 ∷ x8 ∷ x9 ∷ x10 ∷ x11 ∷ x12 ∷ x13 ∷ x14 ∷ x15 ∷ []) h = refl
picked-all s h = absurd (omega arith)

-- what is picked at places below 16
pub IsBytes-picked : (s places : List ℕ) → IsBlock s → list_all (λ k. nat_lt k 16) places ≡ true
    → IsBytes (picked s places)
IsBytes-picked s places h inside =
    All-map (λ x. x < 256) (slice_index s) places (λ k d below.
    let place : ℕ = slice_index_or places k d in
    let place_inside : place < 16 = ltb-true place 16 (AllPass-from_list_all (λ i. nat_lt i 16) places inside k d below) in
    h.bytes place 0 (omega arith))

-- ---- SHIFTROWS and SUBBYTES, and their inverses

-- what SHIFTROWS gives
pub IsBytes-shift_rows : (s : List ℕ) → IsBlock s → IsBytes (shift_rows s)
IsBytes-shift_rows s h =
    IsBytes-picked s (0 ∷ 5 ∷ 10 ∷ 15 ∷ 4 ∷ 9 ∷ 14 ∷ 3 ∷ 8 ∷ 13 ∷ 2 ∷ 7 ∷ 12 ∷ 1 ∷ 6 ∷ 11 ∷ []) h refl

-- what INVSHIFTROWS gives
pub IsBytes-inv_shift_rows : (s : List ℕ) → IsBlock s → IsBytes (inv_shift_rows s)
IsBytes-inv_shift_rows s h =
    IsBytes-picked s (0 ∷ 13 ∷ 10 ∷ 7 ∷ 4 ∷ 1 ∷ 14 ∷ 11 ∷ 8 ∷ 5 ∷ 2 ∷ 15 ∷ 12 ∷ 9 ∷ 6 ∷ 3 ∷ []) h refl

-- INVSHIFTROWS after SHIFTROWS
pub unshifted_rows : (s : List ℕ) → IsBlock s → inv_shift_rows (shift_rows s) ≡ s
unshifted_rows s h = picked-all s h.size

-- SHIFTROWS after INVSHIFTROWS
pub reshifted_rows : (s : List ℕ) → IsBlock s → shift_rows (inv_shift_rows s) ≡ s
reshifted_rows s h = picked-all s h.size
