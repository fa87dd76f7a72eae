-- The lanes of a half among all.
use Rattle.std.proofs.Common.{◌≡◌, ℕ, ◌+◌, ◌-◌, ◌<◌, subst, arith}
use Rattle.mbj_sha_lanes.specs.declared.halves.Half.{Half}
use Rattle.mbj_sha_lanes.specs.Halves.{IsIn, first_of}

-- lane i of a half is lane j behind its first
pub in_half : (half : Half) (P : ℕ → Type 0) → ((j : ℕ) → j < 8 → P (first_of half + j)) → (i : ℕ) → IsIn half i → P i
in_half half P each i within =
    let at : first_of half + (i - first_of half) ≡ i = omega (arith, within.0) in
    subst P at (each (i - first_of half) (omega (arith, within.0, within.1)))
