-- The row is both blocks, one after the other.
use Rattle.std.proofs.Common.{◌≡◌, ℕ, ◌+◌, ◌*◌, [], ◌∷◌, slice_index_or, ap, ◌∙◌, arith}
use Rattle.mbj_aes.proofs.BlockWords.{either_block}
use Rattle.mbj_aes_lanes.proofs.blocks.row.Goals as goal

pub returns : goal.returns
returns g c h hg =
    let block = g.B.LaneBlocks.block_in c.args.blocks.now in
    let k : ℕ = c.args.k in
    let first : k ≡ 16 * 0 + k = omega arith in
    let second : 16 + k ≡ 16 * 1 + k = omega arith in
    c.load.ensures h (omega arith)
    ∙ either_block (λ h. slice_index_or (c.block.result ∷ c.block-2.result ∷ []) h [] ≡ block (16 * h + k))
    (c.block.ensures ∙ ap block first) (c.block-2.ensures ∙ ap block second) h (omega arith)
