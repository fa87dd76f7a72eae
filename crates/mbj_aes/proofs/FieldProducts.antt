-- Products in the field of 256 elements.
use Rattle.std.proofs.Common.{◌≡◌, ℕ, zero, suc, ◌*◌, ◌/◌, ◌%◌, ◌<◌, nat_lt, bit_xor, refl, sym, ap, ap₂, ◌∙◌, arith}
use Rattle.std.proofs.lemmas.Bool.{ltb-true}
use Rattle.std.proofs.lemmas.Nat.{xor_of_8}
use lib.Bits.{xor_assoc, xor_self, xor_zero_r, xor_shr, xor_mod}
use Rattle.mbj_types.specs.Aes.{xtime, times_bits, times, power}
use Rattle.mbj_aes.proofs.ByteCases.{at_each, same_at_each}
use Rattle.mbj_aes.proofs.Sums.{exchanged}

-- ---- a product is a byte

-- the product by x
pub xtime_small : (a : ℕ) → a < 256 → xtime a < 256
xtime_small a h = ltb-true (xtime a) 256 (at_each (λ x. nat_lt (xtime x) 256) 256 a refl h)

-- the product by a bit
bit_times_small : (p a : ℕ) → p < 2 → a < 256 → p * a < 256
bit_times_small zero a h k = let e : 0 * a ≡ 0 = omega arith in omega arith
bit_times_small (suc zero) a h k = let e : 1 * a ≡ a = omega arith in omega arith
bit_times_small (suc (suc p)) a h k = absurd (omega arith)

-- the product with the n lowest bits
times_bits_small : (n a b : ℕ) → a < 256 → times_bits n a b < 256
times_bits_small zero a b h = omega arith
times_bits_small (suc n) a b h =
    xor_of_8 ((b % 2) * a) (times_bits n (xtime a) (b / 2)) (bit_times_small (b % 2) a (omega arith) h)
    (times_bits_small n (xtime a) (b / 2) (xtime_small a h))

-- the product with any number
pub times_small : (a b : ℕ) → a < 256 → times a b < 256
unfolding times
times_small a b h = times_bits_small 8 a b h

-- the powers of a byte
pub power_small : (a n : ℕ) → a < 256 → power a n < 256
unfolding power
power_small a zero h = omega arith
power_small a (suc n) h = times_small a (power a n) h

-- ---- a product with a sum is the sum of the products

-- a byte times the sum of two bits
bit_times-xor : (p q a : ℕ) → p < 2 → q < 2 → bit_xor p q * a ≡ bit_xor (p * a) (q * a)
bit_times-xor zero zero a h k = let z : 0 * a ≡ 0 = omega arith in rw z refl
bit_times-xor zero (suc zero) a h k =
    let e : 1 * a ≡ a = omega arith in let z : 0 * a ≡ 0 = omega arith in rw (e, z) refl
bit_times-xor (suc zero) zero a h k =
    let e : 1 * a ≡ a = omega arith in let z : 0 * a ≡ 0 = omega arith in rw (e, z) (sym (xor_zero_r a))
bit_times-xor (suc zero) (suc zero) a h k =
    let e : 1 * a ≡ a = omega arith in let z : 0 * a ≡ 0 = omega arith in rw e (z ∙ sym (xor_self a))
bit_times-xor (suc (suc p)) q a h k = absurd (omega arith)
bit_times-xor p (suc (suc q)) a h k = absurd (omega arith)

-- a byte times the n lowest bits of a sum
times_bits-xor : (n a x y : ℕ) → times_bits n a (bit_xor x y) ≡ bit_xor (times_bits n a x) (times_bits n a y)
times_bits-xor zero a x y = refl
times_bits-xor (suc n) a x y =
    ap₂ bit_xor (ap (λ (p : ℕ). p * a) (xor_mod x y 1) ∙ bit_times-xor (x % 2) (y % 2) a (omega arith) (omega arith))
    (ap (times_bits n (xtime a)) (xor_shr x y 1) ∙ times_bits-xor n (xtime a) (x / 2) (y / 2))
    ∙ exchanged ((x % 2) * a) ((y % 2) * a) (times_bits n (xtime a) (x / 2)) (times_bits n (xtime a) (y / 2))

-- a byte times a sum
pub times-xor : (a x y : ℕ) → times a (bit_xor x y) ≡ bit_xor (times a x) (times a y)
unfolding times
times-xor a x y = times_bits-xor 8 a x y

-- ---- products as the code makes them

-- 2 times a byte
pub times_2 : (a : ℕ) → a < 256 → xtime a ≡ times 2 a
unfolding times
times_2 a h = same_at_each xtime (times 2) 256 a refl h

-- 3 times a byte
pub times_3 : (a : ℕ) → a < 256 → bit_xor (xtime a) a ≡ times 3 a
unfolding times
times_3 a h = same_at_each (λ x. bit_xor (xtime x) x) (times 3) 256 a refl h

-- 4 times a byte
pub times_4 : (a : ℕ) → a < 256 → xtime (xtime a) ≡ times 4 a
unfolding times
times_4 a h = same_at_each (λ x. xtime (xtime x)) (times 4) 256 a refl h

-- 5 times a byte
pub times_5 : (a : ℕ) → a < 256 → bit_xor a (times 4 a) ≡ times 5 a
unfolding times
times_5 a h = same_at_each (λ x. bit_xor x (times 4 x)) (times 5) 256 a refl h

-- a byte with 4 times its sum with another one
pub spread_is : (a b : ℕ) → a < 256 → b < 256
    → bit_xor a (xtime (xtime (bit_xor a b))) ≡ bit_xor (times 5 a) (times 4 b)
spread_is a b h k =
    ap (bit_xor a) (times_4 (bit_xor a b) (xor_of_8 a b h k) ∙ times-xor 4 a b)
    ∙ sym (xor_assoc a (times 4 a) (times 4 b)) ∙ ap (λ (x : ℕ). bit_xor x (times 4 b)) (times_5 a h)

-- ---- products by 0 and 1

-- 0 times a byte
pub times_0 : (a : ℕ) → a < 256 → times 0 a ≡ 0
unfolding times
times_0 a h = same_at_each (times 0) (λ x. 0) 256 a refl h

-- 1 times a byte
pub times_1 : (a : ℕ) → a < 256 → times 1 a ≡ a
unfolding times
times_1 a h = same_at_each (times 1) (λ x. x) 256 a refl h
