-- Four blocks more are taken.
use Rattle.std.proofs.Common.{ℕ, List, [], ◌∷◌, slice_index_or, ap, ◌∙◌}
use Rattle.mbj_types.specs.Ghash.{ghash_from}
use Rattle.mbj_ghash.proofs.BlockRuns.{ghash_from-next_four}
use Rattle.mbj_ghash.proofs.horner.after_fours.Goals as goal

pub loop-four-preserved : goal.loop-four-preserved
loop-four-preserved c are =
    let h = c.args.subkey.now in
    let xs = c.args.fours.now in
    let i = c.loop-four.four-index in
    let four : List (List ℕ) = slice_index_or xs i [] in
    ghash_from-next_four h c.args.value.now xs i [] [] c.after_four-sum.result c.loop-four-test.true
    (c.told-fours i c.loop-four-test.true)
    (c.after_four-sum.ensures h are (c.new-powers.ensures are)
    ∙ ap (λ t. ghash_from h t (slice_index_or four 0 [] ∷ slice_index_or four 1 [] ∷ slice_index_or four 2 [] ∷
    slice_index_or four 3 [] ∷ []))
    (c.loop-four.invariant are))
