-- The bit that is shifted out comes back as the reduction, or there is none.
use Rattle.std.proofs.Common.{◌≡◌, ℕ, ◌*◌, ◌/◌, ◌%◌, ◌^◌, ◌==◌, ◌∙◌, bit_xor, ap, arith}
use Rattle.std.specs.Int.Bits.{xor_zero_r}
use Rattle.std.proofs.lemmas.Bool.{cond_both, eqb-true, eqb-false}
use Rattle.mbj_cmac.proofs.closing.doubled_number.Goals as goal

pub returns : goal.returns
returns c =
    let top : ℕ = c.args.block / 2 ^ 127 in
    let shifted : ℕ = c.args.block * 2 % 2 ^ 128 in
    cond_both (top == 1) (bit_xor shifted 135) shifted (λ r. bit_xor shifted (top * 135) ≡ r)
    (λ e. ap (λ (n : ℕ). bit_xor shifted (n * 135)) (eqb-true top 1 e))
    (λ e. let none : top ≡ 0 = omega (arith, eqb-false top 1 e) in ap (λ (n : ℕ). bit_xor shifted (n * 135)) none ∙ xor_zero_r shifted)
