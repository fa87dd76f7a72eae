-- The job that is looked at stays as it is.
use Rattle.std.proofs.Common.{◌≡◌, List, [], ◌∷◌, Some, set, slice_get, refl, ap, sym, ◌∙◌}
use Rattle.mbj_types.specs.declared.job.Job.{Job}
use Rattle.mbj_manager.proofs.manager.Manager.find.Goals as goal

set-same : (o : List Job) (j : Job) → slice_get o 0 ≡ Some j → set o 0 j ≡ o
set-same [] j is = refl
set-same (x ∷ xs) j is = let same : x ≡ j = cc in ap (λ (y : Job). y ∷ xs) (sym same)

pub returns-clause-same : goal.returns-clause-same
returns-clause-same c =
    let w = c.self.inside.engine in
    ap (λ (o : List Job). record w { opened = o; expansions = c.self.inside.expansions }) (set-same w.opened c.open_job-job.result.now c.open_job-job.ensures.value)
    ∙ c.self.view_is
