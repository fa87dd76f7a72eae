-- Bytes that are drawn one by one.
use Rattle.std.proofs.Common.{◌≡◌, ◌+◌, ◌-◌, ◌<◌, ◌≤◌, ◌++◌, [], ◌∷◌, ap, arith, append_assoc, append-nil, ℕ, List, suc}
use Rattle.mbj_gen.specs.Generator.{byte, draws}

-- i of n bytes from the state x on are drawn: with the bytes from the state y on, they are the n bytes
pub record IsDrawn (n i x : ℕ) (drawn : List ℕ) (y : ℕ) : Type 0 where
  pub drawn_and_left : drawn ++ (draws byte (n - i) y).0 ≡ (draws byte n x).0
  pub last : (draws byte (n - i) y).1 ≡ (draws byte n x).1

next_is_drawn : (n i y : ℕ) → i < n
    → draws byte (n - i) y ≡ ((byte y).0 ∷ (draws byte (n - (i + 1)) (byte y).1).0, (draws byte (n - (i + 1)) (byte y).1).1)
unfolding draws
next_is_drawn n i y below = let left : n - i ≡ suc (n - (i + 1)) = omega arith in ap (λ k. draws byte k y) left

none_is_left : (n i y : ℕ) → n ≤ i → draws byte (n - i) y ≡ ([], y)
unfolding draws
none_is_left n i y all = let none : n - i ≡ 0 = omega arith in ap (λ k. draws byte k y) none

pub draws_none : (n x : ℕ) → IsDrawn n 0 x [] x
draws_none n x =
    let all : n - 0 ≡ n = omega arith in
    record { drawn_and_left = ap (λ k. (draws byte k x).0) all; last = ap (λ k. (draws byte k x).1) all }

pub draws_one : (n i x : ℕ) (drawn more : List ℕ) (y z b : ℕ) → IsDrawn n i x drawn y → i < n
    → b ≡ (byte y).0 → z ≡ (byte y).1 → more ≡ drawn ++ b ∷ [] → IsDrawn n (i + 1) x more z
draws_one n i x drawn more y z b is below value state pushed =
    let next = next_is_drawn n i y below in
    let moved = append_assoc drawn (b ∷ []) (draws byte (n - (i + 1)) z).0 in
    record { drawn_and_left = cc (next, moved); last = cc next }

pub draws_all : (n i x : ℕ) (drawn : List ℕ) (y : ℕ) → IsDrawn n i x drawn y → n ≤ i
    → (drawn ≡ (draws byte n x).0) × (y ≡ (draws byte n x).1)
draws_all n i x drawn y is all =
    let left = none_is_left n i y all in
    let whole = append-nil drawn in
    (cc (left, whole), cc left)
