-- A list that is read in pieces.
use Rattle.std.proofs.Common.{◌≡◌, ◌∙◌, ◌≤◌, ◌+◌, ℕ, List, ◌++◌, sym, ap, length, take, drop, arith}
use Rattle.std.proofs.lemmas.List.{length-take-le, take_at, length-drop}
use Rattle.std.proofs.lemmas.List.{take-append-drop, drop-drop}

-- what is left from `at` on is n elements, now in front of `after`, and what is left behind them
pub piece_and_rest : (xs piece after : List ℕ) (at n : ℕ)
    → piece ≡ take n (drop at xs) → at + n ≤ length xs
    → drop at xs ≡ take n (piece ++ after) ++ drop (at + n) xs
piece_and_rest xs piece after at n is inside =
    let left : n ≤ length (drop at xs) = omega (arith, length-drop at xs) in
    let len : length piece ≡ n = ap length is ∙ length-take-le n (drop at xs) left in
    let given : take n (drop at xs) ≡ take n (piece ++ after) = sym is ∙ sym (take_at piece after n len) in
    sym (take-append-drop n (drop at xs))
    ∙ ap (λ l. l ++ drop n (drop at xs)) given
    ∙ ap (λ l. take n (piece ++ after) ++ l) (drop-drop n at xs)
