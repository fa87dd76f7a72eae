-- A lane queue in which one item is changed, or which has one item more.
use Rattle.std.proofs.Common.{◌≡◌, ◌≢◌, ℕ, ◌+◌, zero, suc, List, [], ◌∷◌, ◌++◌, length, map, slice_index_or, refl, ap, sym, arith}
use Rattle.std.specs.Prelude.{sum_by}
use Rattle.std.proofs.lemmas.List.Sums.{sum_by-cons}
use Rattle.mbj_manager.specs.Machine.Queues.{changed}

-- the item that is changed, also past the end, if f keeps the default
pub at-changed : {A : Type 0} (f : A → A) (d : A) → f d ≡ d → (n : ℕ) (xs : List A)
    → slice_index_or (changed f n xs) n d ≡ f (slice_index_or xs n d)
at-changed f d e n [] = sym e
at-changed f d e zero (x ∷ xs) = refl
at-changed f d e (suc n) (x ∷ xs) = at-changed f d e n xs

-- another item stays
pub other-changed : {A : Type 0} (f : A → A) (d : A) (n m : ℕ) (xs : List A) → m ≢ n
    → slice_index_or (changed f n xs) m d ≡ slice_index_or xs m d
other-changed f d n m [] ne = refl
other-changed f d zero zero (x ∷ xs) ne = absurd (ne refl)
other-changed f d zero (suc m) (x ∷ xs) ne = refl
other-changed f d (suc n) zero (x ∷ xs) ne = refl
other-changed f d (suc n) (suc m) (x ∷ xs) ne = other-changed f d n m xs (λ e. ne (ap suc e))

-- what g sees of the items stays if f changes nothing of it
pub map-unchanged : {A B : Type 0} (g : A → B) (f : A → A) → ((x : A) → g (f x) ≡ g x) → (n : ℕ) (xs : List A)
    → map g (changed f n xs) ≡ map g xs
map-unchanged g f same n [] = refl
map-unchanged g f same zero (x ∷ xs) = ap (λ y. y ∷ map g xs) (same x)
map-unchanged g f same (suc n) (x ∷ xs) = ap (λ ys. g x ∷ ys) (map-unchanged g f same n xs)

-- what f keeps of an item holds of each item still
pub each-changed : {A : Type 0} (P : A → Type 0) (f : A → A) (d : A) → ((x : A) → P x → P (f x)) → (n : ℕ) (xs : List A)
    → ((i : ℕ) → P (slice_index_or xs i d)) → (i : ℕ) → P (slice_index_or (changed f n xs) i d)
each-changed P f d keeps n [] each i = each i
each-changed P f d keeps zero (x ∷ xs) each zero = keeps x (each zero)
each-changed P f d keeps zero (x ∷ xs) each (suc i) = each (suc i)
each-changed P f d keeps (suc n) (x ∷ xs) each zero = each zero
each-changed P f d keeps (suc n) (x ∷ xs) each (suc i) = each-changed P f d keeps n xs (λ j. each (suc j)) i

-- the items before one that is put at the end, and what stands for those past it
pub other-added : {A : Type 0} (d : A) (xs : List A) (x : A) (n : ℕ) → n ≢ length xs
    → slice_index_or (xs ++ x ∷ []) n d ≡ slice_index_or xs n d
other-added d [] x zero ne = absurd (ne refl)
other-added d [] x (suc n) ne = refl
other-added d (y ∷ xs) x zero ne = refl
other-added d (y ∷ xs) x (suc n) ne = other-added d xs x n (λ e. ne (ap suc e))

-- there are as many items as before
pub length-changed : {A : Type 0} (f : A → A) (n : ℕ) (xs : List A) → length (changed f n xs) ≡ length xs
length-changed f n [] = refl
length-changed f zero (x ∷ xs) = refl
length-changed f (suc n) (x ∷ xs) = ap suc (length-changed f n xs)

-- a sum changes as its term does
pub sum-changed : {A : Type 0} (w : A → ℕ) (f : A → A) (d : A) → f d ≡ d → (n : ℕ) (xs : List A)
    → sum_by w (changed f n xs) + w (slice_index_or xs n d) ≡ sum_by w xs + w (f (slice_index_or xs n d))
sum-changed w f d e n [] = ap (λ x. 0 + w x) (sym e)
sum-changed w f d e zero (x ∷ xs) = omega (arith, sum_by-cons w (f x) xs, sum_by-cons w x xs)
sum-changed w f d e (suc n) (x ∷ xs) =
    omega (arith, sum_by-cons w x (changed f n xs), sum_by-cons w x xs, sum-changed w f d e n xs)
