-- The one block is the vector.
use Rattle.std.proofs.Common.{◌≡◌, ℕ, ◌+◌, ◌*◌, ◌^◌, ◌%◌, ap, ap₂, ◌∙◌, arith, slice_index}
use Rattle.std.proofs.Math.Nat.{mod-eq_of_lt}
use Rattle.mbj_aes.proofs.register.U8x16BlockWord.in_each_block.Goals as goal

pub returns : goal.returns
returns c b j h k =
    let here : 16 * b + j ≡ j = omega arith in
    ap (λ (x : ℕ). x % 2 ^ 8) (ap₂ slice_index c.vector_of.ensures.value here) ∙ mod-eq_of_lt (c.vector_of.ensures.bytes j)
