-- What is asked for the jobs that are owed, over a list of calls.
use Rattle.std.proofs.Common.{◌≡◌, ℕ, Bool, false, ◌≤◌, ◌==◌, List, [], ◌∷◌, ◌++◌, length, map, drop, take, drop-drop, length-append, Option, option_to_list, refl, ap, ap₂, sym, ◌∙◌, append_assoc, append-nil, arith}
use Rattle.std.proofs.lemmas.Bool.{cond_both}
use Rattle.std.proofs.lemmas.List.{drop-append-le, length-map, map-append}
use Rattle.mbj_types.specs.declared.job.Job.{Job}
use Rattle.mbj_types.specs.declared.done.Done.{Done}
use Rattle.mbj_types.specs.Result.{result_of}
use Rattle.mbj_ring.specs.declared.ring.TheConstants.{CELLS}
use Rattle.mbj_stage.specs.Handing.{without_packet}
use Rattle.mbj_manager.specs.Machine.Stages.{Pending}
use Rattle.mbj_manager.specs.Machine.Course.{flushed}
use Rattle.mbj_manager.specs.State.{ManagerState, after_get_completed, after_submit_by, counted, entered, entered_at, finds, given_at, lent, with_open}
use Rattle.mbj_manager.specs.Calls as calls
use Rattle.mbj_manager.specs.Calls.{Call, after_calls, called, given_back, jobs_in, jobs_submitted, submitted_at}
use Rattle.mbj_manager.specs.Inside.Settled.{IsSettled}
use Rattle.mbj_manager.proofs.CallLaws.{keeps, opened_next}
use Rattle.mbj_manager.proofs.CallsKeep.{call-settled}

-- how many results a call gives back
abbrev count : Option Done → ℕ
count d = length (option_to_list d)

given-at-jobs : (ds : List Done) (left : List (List Pending)) (h : ManagerState) → (given_at ds left h).1.jobs ≡ drop (count (given_at ds left h).0) h.jobs
given-at-jobs [] left h = refl
given-at-jobs (d ∷ ds) [] h = refl
given-at-jobs (d ∷ ds) ([] ∷ left) h = refl
given-at-jobs (d ∷ ds) ((p ∷ ps) ∷ left) h = refl

-- the job goes with its result
given-jobs : (h : ManagerState) → (after_get_completed h).1.jobs ≡ drop (count (after_get_completed h).0) h.jobs
given-jobs h = given-at-jobs h.owed h.machine.left h

entered-jobs : (o : List Job) (h : ManagerState) → (entered_at o h).jobs ≡ h.jobs ++ map without_packet (take 1 o)
entered-jobs [] h = sym (append-nil h.jobs)
entered-jobs (j ∷ js) h = refl

-- the jobs after a call are those from before and what it submits, without those whose results it gives back
abbrev KeepsJobs : Call → ManagerState → Type 0
KeepsJobs c h = (called c h).1.jobs ≡ drop (count (called c h).0) (h.jobs ++ map without_packet (jobs_in c h))

submit-jobs : (found : Bool) (o : List Job) (h : ManagerState) → h.opened ≡ o
    → (submitted_at found o h).1.jobs ≡ drop (count (submitted_at found o h).0) (h.jobs ++ map without_packet (take 1 o))
submit-jobs found [] h e = sym (append-nil h.jobs)
submit-jobs found (j ∷ js) h e =
    given-jobs (counted found h (entered h)) ∙ ap (drop (count (after_submit_by found h).0)) (entered-jobs h.opened h
    ∙ ap (λ (o : List Job). h.jobs ++ map without_packet (take 1 o)) e)

next-jobs : (h : ManagerState) → (opened_next h).jobs ≡ h.jobs
next-jobs h = cond_both (length h.owed == CELLS) h (with_open h (lent h)) (λ (x : ManagerState). x.jobs ≡ h.jobs) (λ full. refl) (λ room. refl)

keeps-jobs : (c : Call) (h : ManagerState) → KeepsJobs c h
keeps-jobs calls.get_next h = next-jobs h ∙ sym (append-nil h.jobs)
keeps-jobs (calls.get_next_burst n) h = sym (append-nil h.jobs)
keeps-jobs (calls.write i j) h = sym (append-nil h.jobs)
keeps-jobs calls.submit h = submit-jobs false h.opened h refl
keeps-jobs (calls.submit_in notes) h = submit-jobs (finds notes h.opened) h.opened h refl
keeps-jobs calls.get_completed h = given-jobs h ∙ ap (drop (count (after_get_completed h).0)) (sym (append-nil h.jobs))
keeps-jobs calls.flush h =
    let then : ManagerState = record h { machine = flushed h.machine } in
    given-jobs then ∙ ap (drop (count (after_get_completed then).0)) (sym (append-nil h.jobs))

-- no more is given back than is owed and submitted
few-given : (c : Call) (h : ManagerState) → IsSettled h → count (called c h).0 ≤ length (h.jobs ++ map without_packet (jobs_in c h))
few-given c h settled =
    let back = option_to_list (called c h).0 in
    let asked = settled.asked in
    omega (
      arith,
      ap length (keeps c h),
      length-append back (called c h).1.owed,
      length-append h.owed (map result_of (jobs_in c h)),
      length-append h.jobs (map without_packet (jobs_in c h)),
      length-map (jobs_in c h) result_of,
      length-map (jobs_in c h) without_packet,
    )

pub last-held : (cs : List Call) (h : ManagerState) → IsSettled h
    → (after_calls cs h).jobs ≡ drop (length (given_back cs h)) (h.jobs ++ map without_packet (jobs_submitted cs h))
unfolding given_back jobs_submitted after_calls
last-held [] h settled = sym (append-nil h.jobs)
last-held (c ∷ cs) h settled =
    let n = (called c h).1 in
    let back = option_to_list (called c h).0 in
    let given = given_back cs n in
    let jobs = h.jobs ++ map without_packet (jobs_in c h) in
    let later = map without_packet (jobs_submitted cs n) in
    last-held cs n (call-settled c h settled)
    ∙ ap (λ js. drop (length given) (js ++ later)) (keeps-jobs c h)
    ∙ ap (drop (length given)) (sym (drop-append-le (length back) jobs later (few-given c h settled)))
    ∙ drop-drop (length given) (length back) (jobs ++ later)
    ∙ ap₂ (λ n js. drop n js) (sym (length-append back given))
    (append_assoc h.jobs (map without_packet (jobs_in c h)) later
    ∙ ap (λ js. h.jobs ++ js) (sym (map-append without_packet (jobs_in c h) (jobs_submitted cs n))))
