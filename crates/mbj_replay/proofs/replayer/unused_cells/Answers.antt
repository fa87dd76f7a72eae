use Rattle.std.proofs.Common.{[], ◌∷◌, ◌++◌, map, ap, ◌∙◌}
use Rattle.std.proofs.lemmas.List.{map-append, replicate_more}
use Rattle.mbj_replay.proofs.replayer.unused_cells.Goals as goal

pub loop-preserved : goal.loop-preserved
loop-preserved c =
    ap (λ l. map (λ x. x.number) l) c.in_ok-push.ensures.items ∙ map-append (λ x. x.number) c.loop.cells.items _
    ∙ ap (λ l. l ++ 0 ∷ []) c.loop.invariant ∙ replicate_more c.loop.counter 0
