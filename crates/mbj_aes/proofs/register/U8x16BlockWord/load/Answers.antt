-- The one block is the vector.
use Rattle.std.proofs.Common.{◌≡◌, ℕ, ◌+◌, ◌*◌, [], get_or, sym, ap, ap₂, ◌∙◌, arith, slice_index}
use Rattle.mbj_aes.proofs.BlockWords.{block_in_vector}
use Rattle.mbj_aes.proofs.register.U8x16BlockWord.load.Goals as goal

pub returns : goal.returns
returns c b h =
    let is : b ≡ 0 = omega arith in
    block_in_vector c.vector_of.result (get_or c.args.blocks.now 0 []) b c.vector_of.ensures.size (λ j k. c.vector_of.ensures.bytes j)
    (λ j k. let here : 16 * b + j ≡ j = omega arith in ap₂ slice_index c.vector_of.ensures.value here)
    ∙ ap (λ (i : ℕ). get_or c.args.blocks.now i []) (sym is)
