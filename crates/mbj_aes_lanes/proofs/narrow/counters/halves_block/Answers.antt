-- The bytes of the two halves, the lowest first and then turned, are those of the counter.
use Rattle.std.proofs.Common.{◌≡◌, ℕ, zero, suc, ◌+◌, ◌*◌, ◌/◌, ◌%◌, ◌^◌, List, [], ◌∷◌, refl, ap, ap₂, ◌∙◌, sym, arith}
use Rattle.std.specs.Int.{w128, to_be_bytes, byte_at, bytes_high_first}
use Rattle.std.proofs.Math.Nat.{div-div-eq-div-mul, pow-suc}
use Rattle.mbj_aes_lanes.proofs.narrow.counters.halves_block.Goals as goal

-- n divided by 256, k times
abbrev down : ℕ → ℕ → ℕ
down zero n = n
down (suc k) n = down k n / 256

down_is : (k n : ℕ) → down k n ≡ n / 256 ^ k
down_is zero n = omega arith
down_is (suc k) n =
    ap (λ (x : ℕ). x / 256) (down_is k n)
    ∙ div-div-eq-div-mul n (256 ^ k) 256
    ∙ ap (λ (d : ℕ). n / d) (sym (pow-suc 256 k))

-- the lowest k bytes of n, the highest of them first
abbrev bytes_down : ℕ → ℕ → List ℕ
bytes_down zero n = []
bytes_down (suc k) n = down k n % 256 ∷ bytes_down k n

byte_down : (k n : ℕ) → down k n % 256 ≡ byte_at k n
byte_down zero n = refl
byte_down (suc k) n = ap (λ (x : ℕ). x % 256) (down_is (suc k) n)

bytes_down_are : (k n : ℕ) → bytes_down k n ≡ bytes_high_first k n
bytes_down_are zero n = refl
bytes_down_are (suc k) n = ap₂ (λ b bs. b ∷ bs) (byte_down k n) (bytes_down_are k n)

pub returns : goal.returns
returns c =
    let low : ℕ = c.args.low in
    let high : ℕ = c.args.high in
    let whole : low + 18446744073709551616 * (high + 0) ≡ low + 2 ^ 64 * high = omega arith in
    bytes_down_are 16 (low + 18446744073709551616 * (high + 0)) ∙ ap (to_be_bytes w128) whole
