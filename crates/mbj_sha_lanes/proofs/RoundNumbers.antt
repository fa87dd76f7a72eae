-- The numbers of rounds, counted on.
use Rattle.std.proofs.Common.{◌≡◌, ℕ, ◌+◌, ◌*◌, arith}

pub one_on : (t k : ℕ) → t + k + 1 ≡ t + (k + 1)
one_on t k = omega arith

pub two_on : (t k : ℕ) → t + k + 2 ≡ t + (k + 2)
two_on t k = omega arith

-- turns of eight rounds, and of sixteen
pub next_eight : (turn : ℕ) → 8 * turn + 6 + 2 ≡ 8 * (turn + 1)
next_eight turn = omega arith

pub next_sixteen : (turn : ℕ) → 16 * turn + 14 + 2 ≡ 16 * (turn + 1)
next_sixteen turn = omega arith
