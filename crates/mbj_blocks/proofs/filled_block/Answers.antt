-- The part stands before the zeros that the block began with.
use Rattle.std.proofs.Common.{ℕ, ◌++◌, ap₂, length}
use Rattle.std.proofs.lemmas.List.{drop-replicate}
use Rattle.mbj_blocks.proofs.filled_block.Goals as goal

pub returns : goal.returns
returns c =
    let zero : ℕ = 0 in
    ap₂ (λ xs ys. xs ++ ys) c.copy_from_slice.ensures.after (drop-replicate (length c.args.part.now) 16 zero)
