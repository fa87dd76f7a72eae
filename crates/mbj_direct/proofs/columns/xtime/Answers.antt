-- At each byte.
use Rattle.std.proofs.Common.{ℕ, ◌*◌, ◌/◌, ◌%◌, ◌^◌, bit_xor, refl}
use Rattle.mbj_types.specs.Aes.{xtime}
use Rattle.mbj_aes.proofs.ByteCases.{same_at_each}
use Rattle.mbj_direct.proofs.columns.xtime.Goals as goal

pub returns : goal.returns
returns c = same_at_each (λ (x : ℕ). bit_xor (x * 2 % 2 ^ 8) (x / 2 ^ 7 * 27)) xtime 256 c.args.a refl c.ranges.a.fits
