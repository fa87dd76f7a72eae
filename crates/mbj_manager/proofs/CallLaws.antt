-- What is given back over a list of calls.
use Rattle.std.proofs.Common.{◌≡◌, ◌↔◌, ◌<◌, Bool, false, List, [], ◌∷◌, ◌++◌, drop, length, map, take, Some, None, option_to_list, slice_get, refl, ap, sym, ◌∙◌, append_assoc, append-nil, arith}
use Rattle.std.specs.Prelude.{◌==◌, if◌then◌else◌}
use Rattle.std.proofs.lemmas.List.{map-append}
use Rattle.mbj_types.specs.declared.job.Job.{Job}
use Rattle.mbj_types.specs.declared.done.Done.{Done}
use Rattle.mbj_types.specs.Result.{result_of}
use Rattle.mbj_ring.specs.declared.ring.TheConstants.{CELLS}
use Rattle.mbj_manager.specs.Machine.Stages.{Pending}
use Rattle.mbj_manager.specs.Machine.Course.{course, stepped}
use Rattle.mbj_manager.specs.Machine.Queues.{Machine}
use Rattle.mbj_manager.specs.declared.lane.Cause.TheVariants as cause
use Rattle.mbj_manager.specs.Inside.Added.{added}
use Rattle.mbj_manager.specs.Inside.Standing.{IsInCourse}
use Rattle.mbj_manager.specs.State.{ManagerState, IsEarliestFinished, after_get_completed, given_at, counted, entered, entered_at, finds, lent, after_submit_by, with_open}
use Rattle.mbj_manager.specs.Calls.{Call, get_next, get_next_burst, write, submit, submit_in, get_completed, flush, called, submitted_at, jobs_in, given_back, jobs_submitted, after_calls}
use Rattle.mbj_manager.proofs.CourseEnds.{course-stepped}

given-order-at : (ds : List Done) (left : List (List Pending)) (h : ManagerState) → h.owed ≡ ds
    → option_to_list (given_at ds left h).0 ++ (given_at ds left h).1.owed ≡ ds
given-order-at [] left h e = e
given-order-at (d ∷ ds) [] h e = e
given-order-at (d ∷ ds) ([] ∷ left) h e = refl
given-order-at (d ∷ ds) ((p ∷ ps) ∷ left) h e = e

-- the first of what is owed is given back, and the rest is still owed
pub given-order : (h : ManagerState) → option_to_list (after_get_completed h).0 ++ (after_get_completed h).1.owed ≡ h.owed
given-order h = given-order-at h.owed h.machine.left h refl

none-then : (ds : List Done) (left : List (List Pending)) (h : ManagerState) → h.owed ≡ ds → h.machine.left ≡ left
    → (given_at ds left h).0 ≡ None → ¬ IsEarliestFinished h
none-then [] left h e f n = λ x. x.some e
none-then (d ∷ ds) [] h e f n = λ x. cc
none-then (d ∷ ds) ([] ∷ left) h e f n = cc
none-then (d ∷ ds) ((p ∷ ps) ∷ left) h e f n = λ x. let g : Some (p ∷ ps) ≡ Some [] = sym (ap (λ l. slice_get l 0) f) ∙ x.done in cc

none-if : (ds : List Done) (left : List (List Pending)) (h : ManagerState) → h.owed ≡ ds → h.machine.left ≡ left
    → ¬ IsEarliestFinished h → (given_at ds left h).0 ≡ None
none-if [] left h e f n = refl
none-if (d ∷ ds) [] h e f n = refl
none-if (d ∷ ds) ([] ∷ left) h e f n = elim (n (record { some = λ x. let g : d ∷ ds ≡ [] = sym e ∙ x in cc; done = ap (λ l. slice_get l 0) f })) [ ]
none-if (d ∷ ds) ((p ∷ ps) ∷ left) h e f n = refl

-- nothing is given back exactly where the earliest job isn't finished
pub none-where : (h : ManagerState) → ((after_get_completed h).0 ≡ None) ↔ ¬ IsEarliestFinished h
none-where h = (none-then h.owed h.machine.left h refl refl, none-if h.owed h.machine.left h refl refl)

-- the first open job goes last and goes on once, and then the course is followed
pub entered-stepped : (o : List Job) (h : ManagerState) → 0 < length o → IsInCourse (added o h).machine
    → record (added o h) { machine = course cause.Submit (stepped cause.Submit (added o h).machine) } ≡ entered_at o h
entered-stepped [] h some within = absurd (omega arith)
entered-stepped (j ∷ js) h some within =
    ap (λ (m : Machine). record (added (j ∷ js) h) { machine = m }) (course-stepped cause.Submit (added (j ∷ js) h).machine (λ none. cc) within)

entered-owed : (o : List Job) (h : ManagerState) → (entered_at o h).owed ≡ h.owed ++ map result_of (take 1 o)
entered-owed [] h = sym (append-nil h.owed)
entered-owed (j ∷ js) h = refl

entered-opened : (o : List Job) (h : ManagerState) → h.opened ≡ o → (entered_at o h).opened ≡ drop 1 o
entered-opened [] h e = e
entered-opened (j ∷ js) h e = refl

-- giving back leaves the open jobs as they are
pub given-opened : (ds : List Done) (left : List (List Pending)) (h : ManagerState) → (given_at ds left h).1.opened ≡ h.opened
given-opened [] left h = refl
given-opened (d ∷ ds) [] h = refl
given-opened (d ∷ ds) ([] ∷ left) h = refl
given-opened (d ∷ ds) ((p ∷ ps) ∷ left) h = refl

-- the others stay open
pub submitted-opened : (found : Bool) (h : ManagerState) → (after_submit_by found h).1.opened ≡ drop 1 h.opened
submitted-opened found h = given-opened (entered h).owed (entered h).machine.left (counted found h (entered h)) ∙ entered-opened h.opened h refl

pub submitted-order : (found : Bool) (h : ManagerState)
    → option_to_list (after_submit_by found h).0 ++ (after_submit_by found h).1.owed ≡ h.owed ++ map result_of (take 1 h.opened)
submitted-order found h = given-order (counted found h (entered h)) ∙ entered-owed h.opened h

-- what a call gives back, and then what is owed, are what was owed and the results of what the call submits
abbrev pub Keeps : Call → ManagerState → Type 0
Keeps c h = option_to_list (called c h).0 ++ (called c h).1.owed ≡ h.owed ++ map result_of (jobs_in c h)

-- the next cell lent if there is one
abbrev pub opened_next : ManagerState → ManagerState
opened_next h = if length h.owed == CELLS then h else with_open h (lent h)

submit-keeps : (found : Bool) (o : List Job) (h : ManagerState) → h.opened ≡ o
    → option_to_list (submitted_at found o h).0 ++ (submitted_at found o h).1.owed ≡ h.owed ++ map result_of (take 1 o)
submit-keeps found [] h e = sym (append-nil h.owed)
submit-keeps found (j ∷ js) h e = submitted-order found h ∙ ap (λ o. h.owed ++ map result_of (take 1 o)) e

next-keeps : (h : ManagerState) → (opened_next h).owed ≡ h.owed
next-keeps h = grind arith

pub keeps : (c : Call) (h : ManagerState) → Keeps c h
keeps get_next h = next-keeps h ∙ sym (append-nil h.owed)
keeps (get_next_burst n) h = sym (append-nil h.owed)
keeps (write i j) h = sym (append-nil h.owed)
keeps submit h = submit-keeps false h.opened h refl
keeps (submit_in notes) h = submit-keeps (finds notes h.opened) h.opened h refl
keeps get_completed h = given-order h ∙ sym (append-nil h.owed)
keeps flush h = given-order (record h { machine = Rattle.mbj_manager.specs.Machine.Course.flushed h.machine }) ∙ sym (append-nil h.owed)

pub all-in-order : (cs : List Call) (h : ManagerState)
    → given_back cs h ++ (after_calls cs h).owed ≡ h.owed ++ map result_of (jobs_submitted cs h)
unfolding given_back jobs_submitted after_calls
all-in-order [] h = sym (append-nil h.owed)
all-in-order (c ∷ cs) h =
    let n = (called c h).1 in
    let back = option_to_list (called c h).0 in
    let jobs = jobs_submitted cs n in
    append_assoc back (given_back cs n) (after_calls cs n).owed
    ∙ ap (λ ds. back ++ ds) (all-in-order cs n)
    ∙ sym (append_assoc back n.owed (map result_of jobs))
    ∙ ap (λ ds. ds ++ map result_of jobs) (keeps c h)
    ∙ append_assoc h.owed (map result_of (jobs_in c h)) (map result_of jobs)
    ∙ ap (λ ds. h.owed ++ ds) (sym (map-append result_of (jobs_in c h) jobs))
