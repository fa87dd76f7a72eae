-- Places in layouts.
use Rattle.std.proofs.Common.{◌≡◌, ℕ, ◌+◌, ◌-◌, ◌*◌, ◌/◌, ◌%◌, ◌<◌, List, [], slice_index, get_or, nat_lt, ◌==◌, true, refl, sym, ap, ◌∙◌, arith}
use Rattle.std.proofs.lemmas.Bool.{ltb-true}
use Rattle.mbj_aes.proofs.ByteCases.{at_each, same_at_each, each_below}
use Rattle.mbj_aes_lanes.specs.Inside.Layouts.{place, shifted}

pub place-lt : (r j : ℕ) → place r j < 16
unfolding place
place-lt r j = omega arith

next_product : (r w : ℕ) → (r + 1) * w ≡ r * w + w
next_product r w = omega arith

-- SHIFTROWS is the next layout
pub place-shifted : (r j : ℕ) → j < 16 → place (r + 1) j ≡ place r (shifted j)
unfolding place
place-shifted r j h =
    let w : ℕ = j % 4 in
    let row : shifted j % 4 ≡ w = omega arith in
    let column : shifted j / 4 ≡ (j / 4 + w) % 4 = omega arith in
    rw (next_product r w, row, column) (omega arith)

four_product : (q m w : ℕ) → (4 * q + m) * w ≡ 4 * (q * w) + m * w
four_product q m w = omega arith

-- there are four layouts
pub place-four : (r m j : ℕ) → r % 4 ≡ m → place r j ≡ place m j
unfolding place
place-four r m j h =
    let is : r ≡ 4 * (r / 4) + m = omega arith in
    let product : r * (j % 4) ≡ 4 * (r / 4 * (j % 4)) + m * (j % 4) = ap (λ k. k * (j % 4)) is ∙ four_product (r / 4) m (j % 4) in
    omega (arith, product)

-- a table that is right at each place of each layout
pub tabled : (t : List (List ℕ)) (f : ℕ → ℕ) (r j : ℕ) → j < 16
    → each_below (λ m. each_below (λ j. slice_index (get_or t m []) (place m j) == place m (f j)) 16) 4 ≡ true
    → slice_index (get_or t (r % 4) []) (place r j) ≡ place r (f j)
tabled t f r j h right =
    let m : ℕ = r % 4 in
    ap (λ p. slice_index (get_or t m []) p) (place-four r m j refl)
    ∙ same_at_each (λ j. slice_index (get_or t m []) (place m j)) (λ j. place m (f j)) 16 j
    (at_each (λ m. each_below (λ j. slice_index (get_or t m []) (place m j) == place m (f j)) 16) 4 m right (omega arith)) h
    ∙ sym (place-four r m (f j) refl)

-- a table of places
pub tabled_lt : (t : List (List ℕ)) (m j : ℕ) → m < 4 → j < 16
    → each_below (λ m. each_below (λ j. nat_lt (slice_index (get_or t m []) j) 16) 16) 4 ≡ true
    → slice_index (get_or t m []) j < 16
tabled_lt t m j k h right =
    ltb-true (slice_index (get_or t m []) j) 16
    (at_each (λ j. nat_lt (slice_index (get_or t m []) j) 16) 16 j
    (at_each (λ m. each_below (λ j. nat_lt (slice_index (get_or t m []) j) 16) 16) 4 m right k) h)

-- a table that is right at each byte of the state
pub listed : (t : List (List ℕ)) (r j : ℕ) → j < 16
    → each_below (λ m. each_below (λ j. slice_index (get_or t m []) j == place m j) 16) 4 ≡ true
    → slice_index (get_or t (r % 4) []) j ≡ place r j
listed t r j h right =
    let m : ℕ = r % 4 in
    same_at_each (λ j. slice_index (get_or t m []) j) (place m) 16 j
    (at_each (λ m. each_below (λ j. slice_index (get_or t m []) j == place m j) 16) 4 m right (omega arith)) h
    ∙ sym (place-four r m j refl)

pub place-none : (j : ℕ) → j < 16 → place 0 j ≡ j
unfolding place
place-none j h = omega arith

both : (m n w : ℕ) → (m + n) * w ≡ m * w + n * w
both m n w = omega arith

all_four : (c w r m n : ℕ) → r % 4 ≡ m → n ≡ 4 - m → c < 4 → w < 4 → ((c + r * w) % 4 + n * w) % 4 ≡ c
all_four c w r m n e f h k =
    let is : r ≡ 4 * (r / 4) + m = omega arith in
    let product : r * w ≡ 4 * (r / 4 * w) + m * w = ap (λ k. k * w) is ∙ four_product (r / 4) m w in
    let all : m + n ≡ 4 = omega arith in
    let sum : m * w + n * w ≡ 4 * w = sym (both m n w) ∙ ap (λ k. k * w) all in
    omega (arith, product, sum)

-- a layout and then the rest of four
pub place-back : (r j : ℕ) → j < 16 → place (4 - r % 4) (place r j) ≡ j
unfolding place
place-back r j h =
    let w : ℕ = j % 4 in
    let p : ℕ = 4 * ((j / 4 + r * w) % 4) + w in
    let row : p % 4 ≡ w = omega arith in
    let column : p / 4 ≡ (j / 4 + r * w) % 4 = omega arith in
    rw (row, column, all_four (j / 4) w r (r % 4) (4 - r % 4) refl refl (omega arith) (omega arith)) (omega arith)
