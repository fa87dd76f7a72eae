-- Two shifts whose results share no bit, as a rotation of a word.
use Rattle.std.proofs.Common.{◌≡◌, ℕ, ◌+◌, ◌-◌, ◌*◌, ◌/◌, ◌%◌, ◌^◌, ◌<◌, bit_or, bit_xor, sym, ◌∙◌, arith, refl, add-zero}
use Rattle.std.specs.Int.{Width, rotate_left, rotate_right}
use Rattle.std.proofs.Math.Nat.{mod-eq_of_lt}
use Rattle.std.proofs.lemmas.Nat.{mod-pow-add, shl-shr, mod_low, pow_pos, shr_below, or_shifted, or_comm}
use lib.Bits.{xor_shifted}
use mir.Val.{bits}

shl_is : (x j k : ℕ) → x * 2 ^ k % 2 ^ (j + k) ≡ (x % 2 ^ j) * 2 ^ k
shl_is x j k = mod-pow-add (x * 2 ^ k) j k ∙ rw (shl-shr x k, rw add-zero at (mod_low x k 0 (pow_pos k)), add-zero) refl

-- shifted left by k and right by j, in a word of j + k bits
xor_is_or : (x j k : ℕ) → x < 2 ^ (k + j) → bit_xor (x * 2 ^ k % 2 ^ (j + k)) (x / 2 ^ j) ≡ bit_or (x * 2 ^ k % 2 ^ (j + k)) (x / 2 ^ j)
xor_is_or x j k h =
    let r : x / 2 ^ j < 2 ^ k = shr_below x k j h in
    rw (shl_is x j k) (xor_shifted (x % 2 ^ j) k (x / 2 ^ j) r ∙ sym (or_shifted (x % 2 ^ j) k (x / 2 ^ j) r))

pub rotated_left : (w : Width) (x k : ℕ) → x < 2 ^ bits w → 0 < k → k < bits w
    → bit_xor (x * 2 ^ k % 2 ^ bits w) (x / 2 ^ (bits w - k)) ≡ rotate_left w x k
rotated_left w x k h low high =
    let j : ℕ = bits w - k in
    let s : j + k ≡ bits w = omega arith in
    let t : k + j ≡ bits w = omega arith in
    let m : k % bits w ≡ k = mod-eq_of_lt high in
    let below : bits w - k < bits w = omega arith in
    let n : (bits w - k) % bits w ≡ bits w - k = mod-eq_of_lt below in
    rw (m, n) (rw s at (xor_is_or x j k (rw t h)))

pub rotated_right : (w : Width) (x k : ℕ) → x < 2 ^ bits w → 0 < k → k < bits w
    → bit_xor (x * 2 ^ (bits w - k) % 2 ^ bits w) (x / 2 ^ k) ≡ rotate_right w x k
rotated_right w x k h low high =
    let j : ℕ = bits w - k in
    let s : k + j ≡ bits w = omega arith in
    let t : j + k ≡ bits w = omega arith in
    let m : k % bits w ≡ k = mod-eq_of_lt high in
    let below : bits w - k < bits w = omega arith in
    let n : (bits w - k) % bits w ≡ bits w - k = mod-eq_of_lt below in
    rw (m, n) (rw s at (xor_is_or x k j (rw t h)) ∙ or_comm (x * 2 ^ (bits w - k) % 2 ^ bits w) (x / 2 ^ k))
