use Rattle.std.proofs.Common.{[], ◌∷◌, ◌++◌, map, ap, ◌∙◌}
use Rattle.std.proofs.lemmas.List.{map-append, replicate_more}
use Rattle.mbj_manager.specs.State.{new_manager}
use Rattle.mbj_replay.proofs.worker.idle_workers.Goals as goal

pub loop-preserved : goal.loop-preserved
loop-preserved c =
    let was = c.loop.invariant in let workers = c.loop.workers.items in let made = c.in_ok-new.ensures in record {
      managers = ap (λ l. map (λ w. w.manager) l) c.in_ok-push.ensures.items ∙ map-append (λ w. w.manager) workers _
          ∙ ap (λ m. map (λ w. w.manager) workers ++ m ∷ []) made.0 ∙ ap (λ l. l ++ new_manager ∷ []) was.managers ∙ replicate_more c.loop.counter new_manager;
      hands = ap (λ l. map (λ w. w.hand.items) l) c.in_ok-push.ensures.items ∙ map-append (λ w. w.hand.items) workers _
          ∙ ap (λ h. map (λ w. w.hand.items) workers ++ h ∷ []) made.1 ∙ ap (λ l. l ++ [] ∷ []) was.hands ∙ replicate_more c.loop.counter [];
    }
