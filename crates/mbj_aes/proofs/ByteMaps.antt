-- The S-box and its inverse on bytes and on states.
use Rattle.std.proofs.Common.{◌≡◌, ℕ, zero, suc, ◌<◌, List, [], ◌∷◌, map, slice_index_or, refl, ap, ap₂, ◌∙◌, arith}
use Rattle.std.proofs.lemmas.List.{length-map}
use Rattle.std.proofs.lemmas.List.Elements.{All-map, All-head, All-tail}
use Rattle.mbj_types.specs.Aes.{times, power, affine_bit, affine_bits, inv_affine_bit, inv_affine_bits, sub_byte, inv_sub_byte, sub_bytes, inv_sub_bytes}
use Rattle.mbj_aes.specs.Bytes.{IsBytes, IsBlock}
use Rattle.mbj_aes.proofs.ByteCases.{same_at_each}
use Rattle.mbj_aes.proofs.FieldProducts.{times_small, power_small}

-- ---- the two by squares in the field

-- a times its square, times the square of that, and so on: n factors
abbrev squares : ℕ → ℕ → ℕ
squares zero a = 1
squares (suc n) a = times a (squares n (times a a))

-- the product of the powers 2, 4, 8 and so on to 128
abbrev pub inverse : ℕ → ℕ
inverse x = squares 7 (times x x)

-- the power 254 is that product, computed at each byte
power_is : (x : ℕ) → x < 256 → power x 254 ≡ inverse x
unfolding times power
power_is x h = same_at_each (λ x. power x 254) inverse 256 x refl h

-- a byte
inverse_small : (x : ℕ) → x < 256 → inverse x < 256
inverse_small x h = times_small (times x x) (squares 6 (times (times x x) (times x x))) (times_small x x h)

-- a number of eight bits
affine_bits_small : (a : ℕ) → affine_bits a 8 < 256
affine_bits_small a =
    let bit : (i : ℕ) → affine_bit a i < 2 = λ i. omega arith in
    omega (arith, bit 0, bit 1, bit 2, bit 3, bit 4, bit 5, bit 6, bit 7)

-- a number of eight bits, too
inv_affine_bits_small : (a : ℕ) → inv_affine_bits a 8 < 256
inv_affine_bits_small a =
    let bit : (i : ℕ) → inv_affine_bit a i < 2 = λ i. omega arith in
    omega (arith, bit 0, bit 1, bit 2, bit 3, bit 4, bit 5, bit 6, bit 7)

-- SBOX
pub sub_byte_is : (x : ℕ) → x < 256 → sub_byte x ≡ affine_bits (inverse x) 8
unfolding sub_byte
sub_byte_is x h = ap (λ a. affine_bits a 8) (power_is x h)

-- INVSBOX
pub inv_sub_byte_is : (x : ℕ) → inv_sub_byte x ≡ inverse (inv_affine_bits x 8)
unfolding inv_sub_byte
inv_sub_byte_is x = power_is (inv_affine_bits x 8) (inv_affine_bits_small x)

-- ---- each is the other's inverse

-- INVSBOX after SBOX, computed at each byte
unsubstituted_byte : (x : ℕ) → x < 256 → inv_sub_byte (sub_byte x) ≡ x
unfolding times
unsubstituted_byte x h =
    ap inv_sub_byte (sub_byte_is x h)
    ∙ inv_sub_byte_is (affine_bits (inverse x) 8)
    ∙ same_at_each (λ x. inverse (inv_affine_bits (affine_bits (inverse x) 8) 8)) (λ x. x) 256 x refl h

-- SBOX after INVSBOX, computed at each byte
resubstituted_byte : (x : ℕ) → x < 256 → sub_byte (inv_sub_byte x) ≡ x
unfolding times
resubstituted_byte x h =
    let a : ℕ = inv_affine_bits x 8 in
    ap sub_byte (inv_sub_byte_is x)
    ∙ sub_byte_is (inverse a) (inverse_small a (inv_affine_bits_small x))
    ∙ same_at_each (λ x. affine_bits (inverse (inverse (inv_affine_bits x 8))) 8) (λ x. x) 256 x refl h

-- one map undoes another on lists of bytes
map-undone : (f g : ℕ → ℕ) (s : List ℕ) → ((x : ℕ) → x < 256 → g (f x) ≡ x) → IsBytes s → map g (map f s) ≡ s
map-undone f g [] undone h = refl
map-undone f g (x ∷ s) undone h =
    let P : ℕ → Type 0 = λ a. a < 256 in
    ap₂ (λ y ys. y ∷ ys) (undone x (All-head P x s h)) (map-undone f g s undone (All-tail P x s h))

-- INVSUBBYTES after SUBBYTES
pub unsubstituted_bytes : (s : List ℕ) → IsBytes s → inv_sub_bytes (sub_bytes s) ≡ s
unsubstituted_bytes s h = map-undone sub_byte inv_sub_byte s unsubstituted_byte h

-- SUBBYTES after INVSUBBYTES
pub resubstituted_bytes : (s : List ℕ) → IsBytes s → sub_bytes (inv_sub_bytes s) ≡ s
resubstituted_bytes s h = map-undone inv_sub_byte sub_byte s resubstituted_byte h

-- ---- each gives bytes, of any number

-- what SBOX gives
pub sub_byte_small : (x : ℕ) → sub_byte x < 256
unfolding sub_byte
sub_byte_small x = affine_bits_small (power x 254)

-- what INVSBOX gives
pub inv_sub_byte_small : (x : ℕ) → inv_sub_byte x < 256
unfolding inv_sub_byte
inv_sub_byte_small x = power_small (inv_affine_bits x 8) 254 (inv_affine_bits_small x)

-- what SUBBYTES gives
pub IsBytes-sub_bytes : (s : List ℕ) → IsBytes (sub_bytes s)
IsBytes-sub_bytes s = All-map (λ x. x < 256) sub_byte s (λ k d below. sub_byte_small (slice_index_or s k d))

-- what INVSUBBYTES gives
pub IsBytes-inv_sub_bytes : (s : List ℕ) → IsBytes (inv_sub_bytes s)
IsBytes-inv_sub_bytes s = All-map (λ x. x < 256) inv_sub_byte s (λ k d below. inv_sub_byte_small (slice_index_or s k d))

-- SUBBYTES of a block
pub IsBlock-sub_bytes : (s : List ℕ) → IsBlock s → IsBlock (sub_bytes s)
IsBlock-sub_bytes s h = record { size = length-map s sub_byte ∙ h.size; bytes = IsBytes-sub_bytes s }
