-- The blocks stand one after the other.
use Rattle.std.proofs.Common.{◌≡◌, ◌+◌, ◌*◌, [], get_or, ap, ◌∙◌, slice_index, arith}
use Rattle.mbj_types.specs.Lanes.{lane_at}
use Rattle.mbj_aes.specs.BlockWords.{block_at}
use Rattle.mbj_aes.proofs.BlockWords.{block_in_vector, either_block}
use Rattle.mbj_aes.proofs.register.U8x32BlockWord.load.Goals as goal

pub returns : goal.returns
returns c b h =
    either_block (λ b. block_at (lane_at 8) c.both.result b ≡ get_or c.args.blocks.now b [])
    (block_in_vector c.both.result (get_or c.args.blocks.now 0 []) 0 c.vector_of.ensures.size (λ j k. c.vector_of.ensures.bytes j)
    (λ j k.
    let here : 16 * 0 + j ≡ j = omega arith in
    ap (slice_index c.both.result) here ∙ c.both.ensures.first j k ∙ ap (λ v. slice_index v j) c.vector_of.ensures.value))
    (block_in_vector c.both.result (get_or c.args.blocks.now 1 []) 1 c.vector_of-2.ensures.size (λ j k. c.vector_of-2.ensures.bytes j)
    (λ j k. c.both.ensures.second j k ∙ ap (λ v. slice_index v j) c.vector_of-2.ensures.value))
    b h
