-- Submissions of the first open jobs, one after another.
use Rattle.std.proofs.Common.{◌≡◌, ℕ, false, ◌++◌, zero, suc, List, [], ◌∷◌, drop, map, replicate, take, refl, ap, ap₂, ◌∙◌, append_assoc}
use Rattle.mbj_types.specs.declared.job.Job.{Job}
use Rattle.mbj_types.specs.declared.done.Done.{Done}
use Rattle.mbj_types.specs.Result.{result_of}
use Rattle.mbj_manager.specs.State.{ManagerState}
use Rattle.mbj_manager.specs.Calls as calls
use Rattle.mbj_manager.specs.Calls.{after_calls, called, given_back, jobs_submitted, submitted_at}
use Rattle.mbj_manager.proofs.CallLaws.{all-in-order, submitted-opened}

submit-opened : (o : List Job) (h : ManagerState) → h.opened ≡ o → (submitted_at false o h).1.opened ≡ drop 1 o
submit-opened [] h is = is
submit-opened (j ∷ js) h is = submitted-opened false h ∙ ap (drop 1) is

drop-next : (n : ℕ) (o : List Job) → drop n (drop 1 o) ≡ drop (suc n) o
drop-next zero [] = refl
drop-next zero (j ∷ js) = refl
drop-next (suc n) [] = refl
drop-next (suc n) (j ∷ js) = refl

take-next : (n : ℕ) (o : List Job) → take 1 o ++ take n (drop 1 o) ≡ take (suc n) o
take-next zero [] = refl
take-next zero (j ∷ js) = refl
take-next (suc n) [] = refl
take-next (suc n) (j ∷ js) = refl

-- the others stay open
pub submits-others : (n : ℕ) (h : ManagerState) → (after_calls (replicate n calls.submit) h).opened ≡ drop n h.opened
unfolding after_calls
submits-others zero h = refl
submits-others (suc n) h =
    submits-others n (called calls.submit h).1 ∙ ap (drop n) (submit-opened h.opened h refl) ∙ drop-next n h.opened

-- these jobs are submitted
submits-jobs : (n : ℕ) (h : ManagerState) → jobs_submitted (replicate n calls.submit) h ≡ take n h.opened
unfolding jobs_submitted
submits-jobs zero h = refl
submits-jobs (suc n) h =
    ap (λ js. take 1 h.opened ++ js) (submits-jobs n (called calls.submit h).1 ∙ ap (take n) (submit-opened h.opened h refl))
    ∙ take-next n h.opened

-- what is given back behind other results, and then what is still owed
pub submits-order : (n : ℕ) (h after : ManagerState) (out out' : List Done) → after ≡ after_calls (replicate n calls.submit) h
    → out' ≡ out ++ given_back (replicate n calls.submit) h → out' ++ after.owed ≡ out ++ (h.owed ++ map result_of (take n h.opened))
submits-order n h after out out' is given =
    ap₂ (λ (ds : List Done) (g : ManagerState). ds ++ g.owed) given is
    ∙ append_assoc out (given_back (replicate n calls.submit) h) (after_calls (replicate n calls.submit) h).owed
    ∙ ap (λ ds. out ++ ds) (all-in-order (replicate n calls.submit) h ∙ ap (λ js. h.owed ++ map result_of js) (submits-jobs n h))
