-- Numbers that are written in bytes, the highest first, and read again.
use Rattle.std.proofs.Common.{◌≡◌, ℕ, zero, suc, ◌+◌, ◌-◌, ◌*◌, ◌/◌, ◌%◌, ◌^◌, ◌<◌, ◌≤◌, List, [], ◌∷◌, ◌++◌, length, drop, refl, sym, ap, ap₂, ◌∙◌, arith}
use Rattle.std.specs.Int.{w128, byte_at, bytes_high_first, from_be_bytes}
use Rattle.std.proofs.Math.Arith.{mod-mul}
use Rattle.std.proofs.Math.Nat.{div-div-eq-div-mul, pow-suc, one-le-pow}
use Rattle.std.proofs.lemmas.List.Elements.{All-cons, All-head, All-nil, All-tail}
use Rattle.std.proofs.lemmas.Nat.{mod_below}
use Rattle.mbj_aes.specs.Bytes.{IsBytes}

-- ---- the bytes of a number

pub length-bytes_high_first : (k n : ℕ) → length (bytes_high_first k n) ≡ k
length-bytes_high_first zero n = refl
length-bytes_high_first (suc k) n = ap suc (length-bytes_high_first k n)

-- without the highest ones
pub drop-bytes_high_first : (j k n : ℕ) → drop j (bytes_high_first k n) ≡ bytes_high_first (k - j) n
drop-bytes_high_first zero k n = let all : k ≡ k - 0 = omega arith in ap (λ (m : ℕ). bytes_high_first m n) all
drop-bytes_high_first (suc j) zero n = let none : 0 ≡ 0 - suc j = omega arith in ap (λ (m : ℕ). bytes_high_first m n) none
drop-bytes_high_first (suc j) (suc k) n =
    let fewer : k - j ≡ suc k - suc j = omega arith in
    drop-bytes_high_first j k n ∙ ap (λ (m : ℕ). bytes_high_first m n) fewer

byte_at-pow : (k n : ℕ) → byte_at k n ≡ n / 256 ^ k % 256
byte_at-pow zero n = omega arith
byte_at-pow (suc k) n = refl

byte_at-below : (k n : ℕ) → byte_at k n < 256
byte_at-below zero n = mod_below n 256 (omega arith)
byte_at-below (suc k) n = mod_below (n / 256 ^ suc k) 256 (omega arith)

pub IsBytes-bytes_high_first : (k n : ℕ) → IsBytes (bytes_high_first k n)
IsBytes-bytes_high_first zero n = All-nil (λ x. x < 256)
IsBytes-bytes_high_first (suc k) n =
    All-cons (λ x. x < 256) (byte_at k n) (bytes_high_first k n) (byte_at-below k n) (IsBytes-bytes_high_first k n)

-- ---- the number of bytes

-- the number h, with these bytes behind it
abbrev pub with_bytes : ℕ → List ℕ → ℕ
with_bytes h [] = h
with_bytes h (x ∷ xs) = with_bytes (h * 256 + x) xs

pub with_bytes-append : (h : ℕ) (xs ys : List ℕ) → with_bytes h (xs ++ ys) ≡ with_bytes (with_bytes h xs) ys
with_bytes-append h [] ys = refl
with_bytes-append h (x ∷ xs) ys = with_bytes-append (h * 256 + x) xs ys

-- what is above the bytes
pub with_bytes-above : (h : ℕ) (xs : List ℕ) → IsBytes xs → with_bytes h xs / 256 ^ length xs ≡ h
with_bytes-above h [] b = omega arith
with_bytes-above h (x ∷ xs) b =
    let n : ℕ = with_bytes (h * 256 + x) xs in
    let k : ℕ = length xs in
    let small : x < 256 = All-head (λ y. y < 256) x xs b in
    ap (λ (d : ℕ). n / d) (pow-suc 256 k)
    ∙ sym (div-div-eq-div-mul n (256 ^ k) 256)
    ∙ ap (λ (m : ℕ). m / 256) (with_bytes-above (h * 256 + x) xs (All-tail (λ y. y < 256) x xs b))
    ∙ omega arith

-- the bytes are its lowest ones
pub bytes-with_bytes : (h : ℕ) (xs : List ℕ) → IsBytes xs → bytes_high_first (length xs) (with_bytes h xs) ≡ xs
bytes-with_bytes h [] b = refl
bytes-with_bytes h (x ∷ xs) b =
    let n : ℕ = with_bytes (h * 256 + x) xs in
    let small : x < 256 = All-head (λ y. y < 256) x xs b in
    let rest : IsBytes xs = All-tail (λ y. y < 256) x xs b in
    let above : n / 256 ^ length xs ≡ h * 256 + x = with_bytes-above (h * 256 + x) xs rest in
    let first : byte_at (length xs) n ≡ x = byte_at-pow (length xs) n ∙ ap (λ (m : ℕ). m % 256) above ∙ omega arith in
    ap₂ (λ y ys. y ∷ ys) first (bytes-with_bytes (h * 256 + x) xs rest)

-- one byte of n more
next_byte : (k n h : ℕ) → (h * 256 + byte_at k n) * 256 ^ k + n % 256 ^ k ≡ h * 256 ^ suc k + n % 256 ^ suc k
next_byte k n h =
    let unit : ℕ = 256 ^ k in
    let some : 1 ≤ unit = one-le-pow k 256 (omega arith) in
    let wider : 256 ^ suc k ≡ 256 * unit = pow-suc 256 k ∙ omega arith in
    rw (wider, byte_at-pow k n, mod-mul n {m = 256} {c = unit} (omega arith) (omega arith)) (omega arith)

-- the lowest k bytes of n
pub with_bytes-bytes : (k n h : ℕ) → with_bytes h (bytes_high_first k n) ≡ h * 256 ^ k + n % 256 ^ k
with_bytes-bytes zero n h = omega arith
with_bytes-bytes (suc k) n h = with_bytes-bytes k n (h * 256 + byte_at k n) ∙ next_byte k n h

-- 16 bytes that are read
pub from_be_bytes-with_bytes : (xs : List ℕ) → length xs ≡ 16 → from_be_bytes w128 xs ≡ with_bytes 0 xs
from_be_bytes-with_bytes (a ∷ b ∷ c ∷ d ∷ e ∷ f ∷ g ∷ h ∷ i ∷ j ∷ k ∷ l ∷ m ∷ n ∷ o ∷ p ∷ []) size = omega arith
from_be_bytes-with_bytes xs size = absurd (omega arith)
