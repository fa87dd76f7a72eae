-- At each byte.
use Rattle.std.proofs.Common.{ℕ, bit_xor, refl, ap, ap₂, ◌∙◌}
use Rattle.mbj_types.specs.Aes.{xtime, times}
use Rattle.mbj_aes.proofs.ByteCases.{same_at_each}
use Rattle.mbj_direct.proofs.columns.times_0d.Goals as goal

pub returns : goal.returns
unfolding times
returns c =
    ap (λ (s : ℕ). bit_xor s c.args.a) (ap₂ bit_xor c.doubled_thrice-four.ensures.eight c.doubled_thrice-four.ensures.four)
    ∙ same_at_each (λ (x : ℕ). bit_xor (bit_xor (xtime (xtime (xtime x))) (xtime (xtime x))) x) (times 13) 256 c.args.a refl c.ranges.a.fits
