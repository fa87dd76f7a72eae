-- How a cut goes on behind its first part.
use Rattle.std.proofs.Common.{◌≡◌, ◌∙◌, ◌≤◌, ◌+◌, ◌-◌, ◌∷◌, ◌==◌, ℕ, List, [], take, drop, length, Some, None, ap, sym, arith, length-drop}
use Rattle.std.specs.Prelude.{position}
use Rattle.std.specs.List.{position_or_len}
use Rattle.std.proofs.Math.Seq.{take-length}
use Rattle.std.proofs.lemmas.Bool.Decides.{nat_tests}
use Rattle.std.proofs.lemmas.List.Splits.{slice_split_first, slice_split_none, length-slice_split}
use Rattle.std.proofs.lemmas.List.Sums.{fails_before_first, count_by-le-length}
use Rattle.mbj_text.specs.Cut.{cut}

-- the mark stands first at i; what is behind it is what `&xs[i + 1..]` is
pub cut_at : (m : ℕ) (xs : List ℕ) (i : ℕ) → position (λ x. x == m) xs ≡ Some i
    → cut m xs ≡ take i xs ∷ cut m (take (length xs - (i + 1)) (drop (i + 1) xs))
unfolding cut
cut_at m xs i h =
    let behind : take (length xs - (i + 1)) (drop (i + 1) xs) ≡ drop (i + 1) xs =
    ap (λ n. take n (drop (i + 1) xs)) (sym (length-drop (i + 1) xs)) ∙ take-length (drop (i + 1) xs) in
    rw behind (grind (arith, slice_split_first (λ x. x == m) xs 0))

-- the mark stands nowhere
pub cut_nowhere : (m : ℕ) (xs : List ℕ) → position (λ x. x == m) xs ≡ None → cut m xs ≡ xs ∷ []
unfolding cut
cut_nowhere m xs h =
    let all : length xs ≤ position_or_len (λ x. x == m) xs = grind (arith, nat_tests) in
    slice_split_none (λ x. x == m) xs (λ k d lt. fails_before_first (λ x. x == m) xs k d (omega arith))

-- a text has at most one part more than bytes
pub cut_bound : (m : ℕ) (xs : List ℕ) → length (cut m xs) ≤ length xs + 1
unfolding cut
cut_bound m xs = omega (arith, length-slice_split (λ x. x == m) xs, count_by-le-length (λ x. x == m) xs)
