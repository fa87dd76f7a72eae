-- Halves of vectors, lane by lane.
use Rattle.std.proofs.Common.{◌≡◌, ℕ, ◌+◌, ◌%◌, ◌^◌, ◌<◌, ◌≤◌, List, ◌++◌, length, get_or, slice_set, ap, ◌∙◌, arith, inl, inr, get_or-set_same, get_or-set_other}
use Rattle.std.specs.List.{range_with_len}
use Rattle.std.specs.Simd.Lanes.{pick_l}
use Rattle.std.proofs.lemmas.Bool.{cases_eq}
use Rattle.std.proofs.lemmas.Simd.{get_or-chunk, pick_l-range_with_len}
use Rattle.std.proofs.lemmas.List.{get_or_append_left, length-append}
use Rattle.mbj_types.specs.Lanes.{lane_at}
use Rattle.mbj_sha_lanes.specs.declared.halves.Half.{Half}
use Rattle.mbj_sha_lanes.specs.declared.halves.Half.TheVariants.{Lower, Upper}
use Rattle.mbj_sha_lanes.specs.Halves.{first_of}

pub first_of-le : (half : Half) → first_of half ≤ 8
first_of-le Lower = omega arith
first_of-le Upper = omega arith

-- eight lanes of a vector of sixteen
pub lane-extract : (v : List ℕ) (first i : ℕ) → length v ≡ 16 → first ≤ 8 → i < 8
    → lane_at 32 (pick_l 0 (v ++ v) (range_with_len first 8)) i ≡ lane_at 32 v (first + i)
lane-extract v first i size le lt = ap (λ (x : ℕ). x % 2 ^ 32) (
    ap (λ l. get_or l i 0) (pick_l-range_with_len 0 (v ++ v) first 8 (omega (arith, size, length-append v v)))
    ∙ get_or-chunk first 8 (v ++ v) i 0 lt ∙ get_or_append_left v v 0 (first + i) (omega (arith, size)))

-- a fact of each element before the next one that is written
pub set_more : {X : Type 0} (P : ℕ → X → Type 0) (xs : List X) (k : ℕ) (x d : X) → k < length xs
    → ((j : ℕ) → j < k → P j (get_or xs j d)) → P k x → (j : ℕ) → j < k + 1 → P j (get_or (slice_set xs k x) j d)
set_more P xs k x d inside before new j lt =
    elim (cases_eq j k) [
      | inl same ↦ rw (same, get_or-set_same xs k x d inside) new
      | inr ne ↦ rw (get_or-set_other xs k j x d ne) (before j (omega arith))
    ]
