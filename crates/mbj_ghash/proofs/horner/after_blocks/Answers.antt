-- What is behind the fours is taken too.
use Rattle.std.proofs.Common.{length, ◌/◌, ap, ap₂, ◌∙◌}
use Rattle.std.specs.List.{flat_map}
use Rattle.mbj_types.specs.Ghash.{ghash_from}
use Rattle.mbj_ghash.proofs.BlockRuns.{ghash_from-fours}
use Rattle.mbj_ghash.proofs.horner.after_blocks.Goals as goal

pub returns : goal.returns
returns c are =
    let h = c.args.subkey.now in
    let xs = c.args.blocks.now in
    ghash_from-fours h c.args.value.now c.after_each-2.result xs (length xs / 4)
    (c.after_each-2.ensures h are
    ∙ ap₂ (ghash_from h) (c.after_fours.ensures are
    ∙ ap (λ fs. ghash_from h c.args.value.now (flat_map (λ four. four) fs)) c.as_chunks.ensures.front)
    c.as_chunks.ensures.back)
