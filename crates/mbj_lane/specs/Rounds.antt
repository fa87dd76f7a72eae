-- Entries that advance by rounds. `rest` says how many rounds an entry has left, and `round` is an entry after its next round.
use Rattle.std.specs.Prelude.{◌≡◌, ℕ, ◌==◌, ◌<◌, ◌≤◌, length, slice_index_or, min, zero, suc, List, [], ◌∷◌, Option, Some, None, if◌then◌else◌}
use Rattle.std.specs.Option.{option_map}

-- an entry after m rounds
abbrev pub after : {E : Type 0} → (E → E) → ℕ → E → E
after round zero e = e
after round (suc m) e = after round m (round e)

-- the end of an entry: what it is once it has no round left
abbrev pub end_of : {E : Type 0} → (E → E) → (E → ℕ) → E → E
end_of round rest e = after round (rest e) e

-- the least of n and of the rests
abbrev pub least_from : {E : Type 0} → (E → ℕ) → ℕ → List E → ℕ
least_from rest n [] = n
least_from rest n (e ∷ es) = least_from rest (min n (rest e)) es

-- the least of the rests
abbrev pub least : {E : Type 0} → (E → ℕ) → List E → ℕ
least rest [] = 0
least rest (e ∷ es) = least_from rest (rest e) es

-- the first entry that has no round left, and the others in their order
abbrev pub taken : {E : Type 0} → (E → ℕ) → List E → Option (E × List E)
taken rest [] = None
taken rest (e ∷ es) = if rest e == 0 then Some (e, es) else option_map (λ t. (t.0, e ∷ t.1)) (taken rest es)

-- the first entry that has no round left stands at i
pub record IsFirst {E : Type 0} (rest : E → ℕ) (i : ℕ) (es : List E) : Type 0 where
  pub inside : i < length es
  pub before : (k : ℕ) (d : E) → k < i → 1 ≤ rest (slice_index_or es k d)
  pub done : (d : E) → rest (slice_index_or es i d) ≡ 0
