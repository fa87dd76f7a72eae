-- One block after the other.
use Rattle.std.proofs.Common.{◌≡◌, ℕ, ◌+◌, ◌*◌, [], ◌∷◌, slice_index_or, ap, ◌∙◌, arith}
use Rattle.mbj_aes.proofs.BlockWords.{either_block}
use Rattle.mbj_aes_lanes.proofs.few_keys.blocks_of.Goals as goal

pub returns : goal.returns
returns g c b h =
    let block = g.B.LaneBlocks.block_in c.args.blocks.now in
    let i : ℕ = c.args.i in
    let first : 2 * i ≡ 2 * i + 0 = omega arith in
    c.load.ensures b h
    ∙ either_block (λ b. slice_index_or (c.block.result ∷ c.block-2.result ∷ []) b [] ≡ block (2 * i + b))
    (c.block.ensures ∙ ap block first) c.block-2.ensures b h
