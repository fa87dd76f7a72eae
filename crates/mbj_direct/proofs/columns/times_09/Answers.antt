-- At each byte.
use Rattle.std.proofs.Common.{ℕ, bit_xor, refl, ap, ◌∙◌}
use Rattle.mbj_types.specs.Aes.{xtime, times}
use Rattle.mbj_aes.proofs.ByteCases.{same_at_each}
use Rattle.mbj_direct.proofs.columns.times_09.Goals as goal

pub returns : goal.returns
unfolding times
returns c =
    ap (λ (s : ℕ). bit_xor s c.args.a) c.doubled_thrice.ensures.eight
    ∙ same_at_each (λ (x : ℕ). bit_xor (xtime (xtime (xtime x))) x) (times 9) 256 c.args.a refl c.ranges.a.fits
