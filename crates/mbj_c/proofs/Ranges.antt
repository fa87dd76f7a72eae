-- The ranges of a manager's jobs, once it made a call.
use Rattle.std.proofs.Common.{set, slice_get, ◌≡◌, ◌≢◌, ◌≤◌, ◌+◌, ◌++◌, ◌&&◌, ℕ, Bool, List, [], ◌∷◌, length, drop, take, map, not, Option, None, Some, refl, sym, ap, ap₂, ◌∙◌, subst, arith}
use Rattle.std.specs.Prelude.{false, nat_le, option_map, option_to_list, true}
use Rattle.std.specs.Option.{option_map_or}
use Rattle.std.proofs.lemmas.Bool.{and_from, and_parts, le-leb, leb-true}
use Rattle.std.proofs.lemmas.List.{append-nil, drop-map, map-append, take-map}
use Rattle.mbj_types.specs.declared.job.Job.{Job}
use Rattle.mbj_types.specs.declared.job.Cipher.{Cipher}
use Rattle.mbj_types.specs.declared.job.Cipher.TheVariants as cipher
use Rattle.mbj_types.specs.declared.done.Done.{Done}
use Rattle.mbj_types.specs.declared.done.Status.{Status}
use Rattle.mbj_types.specs.declared.done.Status.TheVariants as status
use Rattle.mbj_types.specs.declared.reason.Reason.{Reason}
use Rattle.mbj_types.specs.Result.{accepted, refused, result_of}
use Rattle.mbj_types.specs.Verdict.{verdict, is_null_cipher}
use Rattle.mbj_args.proofs.Accepted as table
use Rattle.mbj_stage.proofs.PacketLengths.{length-result_of}
use Rattle.mbj_stage.specs.Handing.{without_packet}
use Rattle.mbj_keys.specs.Sessions.{Known}
use Rattle.mbj_manager.specs.Machine.Stages.{Pending}
use Rattle.mbj_manager.specs.State.{ManagerState, after_get_completed, entered_at, given_at}
use Rattle.mbj_manager.specs.Written.{first_range, first_range_at, range_if, written_by}
use Rattle.mbj_manager.proofs.CallLaws.{given-opened, given-order, submitted-opened}
use Rattle.mbj_manager.specs.Machine.Course.{flushed}
use Rattle.mbj_c.specs.declared.giving.Call.{Call}
use Rattle.mbj_c.specs.declared.giving.Call.TheVariants as call
use Rattle.mbj_c.specs.declared.range.CipherRange.{CipherRange}
use Rattle.mbj_c.specs.Filling.{put_at, with_cell, with_job_at}
use Rattle.mbj_c.specs.Giving.{filled_after, found_by, given_first, gone, job_entered, made_by, manager_step, owed_in, ranges_entered, step}
use Rattle.mbj_c.specs.Inside.Ranges.{AreOfJobs}
use Rattle.mbj_c.specs.Ranges.{given_range, range_by, range_owed, ranges_owed, written_range}
use Rattle.mbj_c.specs.State.{RangedState, ranged}

-- ---- the open jobs

-- the ranges of the open jobs that are left are those of the jobs that are open then
pub opened-after : (c : Call) (notes : Option (List Known)) (m : ManagerState) (filled : List CipherRange)
    → filled ≡ map given_range m.opened → filled_after c filled ≡ map given_range (manager_step c notes m).1.opened
opened-after call.Submit notes m filled is =
    ap (drop 1) is ∙ drop-map given_range 1 m.opened ∙ ap (map given_range) (sym (submitted-opened (found_by notes m.opened) m))
opened-after call.Completed notes m filled is = is ∙ ap (map given_range) (sym (given-opened m.owed m.machine.left m))
opened-after call.Flush notes m filled is =
    let after : ManagerState = record m { machine = flushed m.machine } in
    is ∙ ap (map given_range) (sym (given-opened after.owed after.machine.left after))

-- the range of an open job is written over with that of the job that takes its place
pub opened-with : (i : ℕ) (j : Job) (opened : List Job) (filled : List CipherRange) → filled ≡ map given_range opened
    → put_at i (given_range j) filled ≡ map given_range (put_at i j opened)
opened-with i j opened filled is =
    ap (put_at i (given_range j)) is
    ∙ ap (λ rs. rs ++ given_range j ∷ drop (i + 1) (map given_range opened)) (take-map given_range i opened)
    ∙ ap (λ rs. map given_range (take i opened) ++ given_range j ∷ rs) (drop-map given_range (i + 1) opened)
    ∙ sym (map-append given_range (take i opened) (j ∷ drop (i + 1) opened))

-- ---- the jobs

-- with the job that is submitted, the results that are owed are those of the jobs again
pub results-in : (c : Call) (m : ManagerState) (jobs : List Job) → m.owed ≡ map result_of jobs
    → owed_in c m ≡ map result_of (jobs ++ job_entered c m.opened)
results-in call.Submit m jobs are =
    ap (λ ds. ds ++ map result_of (take 1 m.opened)) are ∙ sym (map-append result_of jobs (take 1 m.opened))
results-in call.Completed m jobs are = are ∙ ap (map result_of) (sym (append-nil jobs))
results-in call.Flush m jobs are = are ∙ ap (map result_of) (sym (append-nil jobs))

-- and so are the ranges
pub ranges-in : (c : Call) (opened : List Job) (ranges filled : List CipherRange) (jobs : List Job)
    → ranges ≡ map given_range jobs → filled ≡ map given_range opened
    → ranges ++ ranges_entered c filled ≡ map given_range (jobs ++ job_entered c opened)
ranges-in call.Submit opened ranges filled jobs are is =
    ap (λ rs. rs ++ take 1 filled) are
    ∙ ap (λ o. map given_range jobs ++ take 1 o) is
    ∙ ap (λ rs. map given_range jobs ++ rs) (take-map given_range 1 opened)
    ∙ sym (map-append given_range jobs (take 1 opened))
ranges-in call.Completed opened ranges filled jobs are is = append-nil ranges ∙ are ∙ ap (map given_range) (sym (append-nil jobs))
ranges-in call.Flush opened ranges filled jobs are is = append-nil ranges ∙ are ∙ ap (map given_range) (sym (append-nil jobs))

-- the first job goes with its result
pub results-left : (done : Option Done) (after owed : List Done) (jobs : List Job) → option_to_list done ++ after ≡ owed
    → owed ≡ map result_of jobs → after ≡ map result_of (drop (length (option_to_list done)) jobs)
results-left None after owed jobs order are = order ∙ are
results-left (Some d) after owed jobs order are = ap (drop 1) (order ∙ are) ∙ drop-map result_of 1 jobs

-- and so does its range
pub ranges-left : (done : Option Done) (ranges : List CipherRange) (jobs : List Job) → ranges ≡ map given_range jobs
    → drop (length (option_to_list done)) ranges ≡ map given_range (drop (length (option_to_list done)) jobs)
ranges-left done ranges jobs are = ap (drop (length (option_to_list done))) are ∙ drop-map given_range (length (option_to_list done)) jobs

-- ---- the range of a result

written-within : (c : Cipher) (j : Job) (n : ℕ) → (is_null_cipher c ≡ false → j.cipher_off + j.cipher_len ≤ n)
    → (written_range c j).off + (written_range c j).len ≤ n
written-within cipher.Null j n inside = omega arith
written-within cipher.Cbc j n inside = inside refl
written-within cipher.Ctr j n inside = inside refl
written-within cipher.Gcm j n inside = inside refl
written-within cipher.Ccm j n inside = inside refl

range-within : (reason : Option Reason) (j : Job) → verdict j ≡ reason
    → (range_by reason j).off + (range_by reason j).len ≤ length j.packet
range-within None j none = written-within j.cipher j (length j.packet) (table.accepted j (length j.packet) none).cipher_range
range-within (Some reason) j some = omega arith

-- it is within the packet
pub given-within : (j : Job) → (given_range j).off + (given_range j).len ≤ length (result_of j).packet
given-within j = subst (λ n. (given_range j).off + (given_range j).len ≤ n) (sym (length-result_of j)) (range-within (verdict j) j refl)

-- the first result, or another if there is none
abbrev pub head_or : Done → List Done → Done
head_or d [] = d
head_or d (e ∷ es) = e

-- ---- the ranges by results and jobs

without-its-packet : (c : Cipher) (j : Job) → written_range c (without_packet j) ≡ written_range c j
without-its-packet cipher.Null j = refl
without-its-packet cipher.Cbc j = refl
without-its-packet cipher.Ctr j = refl
without-its-packet cipher.Gcm j = refl
without-its-packet cipher.Ccm j = refl

by-verdict : (reason : Option Reason) (j : Job)
    → range_owed (option_map_or (refused j) reason (accepted j)).status (without_packet j) ≡ range_by reason j
by-verdict None j = without-its-packet j.cipher j
by-verdict (Some reason) j = refl

range-owed : (j : Job) → range_owed (result_of j).status (without_packet j) ≡ given_range j
unfolding result_of
range-owed j = by-verdict (verdict j) j

ranges-of : (js : List Job) → ranges_owed (map result_of js) (map without_packet js) ≡ map given_range js
ranges-of [] = refl
ranges-of (j ∷ js) = ap₂ (λ (r : CipherRange) (rs : List CipherRange). r ∷ rs) (range-owed j) (ranges-of js)

-- the ranges of the results that are owed are those of their jobs
pub ranges-are : (m : ManagerState) (are : AreOfJobs m) → ranges_owed m.owed m.jobs ≡ map given_range are.jobs
ranges-are m are =
    ap₂ (λ (ds : List Done) (js : List Job). ranges_owed ds js) are.results are.asked ∙ ranges-of are.jobs

-- a job that is filled brings its range
pub filled-ranged : (i : ℕ) (j : Job) (notes : Option (List Known)) (m : ManagerState)
    → ranged (with_cell i j m) notes ≡ with_job_at i j (ranged m notes)
filled-ranged i j notes m =
    ap (λ (fs : List CipherRange). record { manager = with_cell i j m; ranges = ranges_owed m.owed m.jobs; filled = fs; notes = notes })
    (sym (opened-with i j m.opened (map given_range m.opened) refl))

-- ---- a call, but for giving back

entered-owed : (o : List Job) (m : ManagerState) → (entered_at o m).owed ≡ m.owed ++ map result_of (take 1 o)
entered-owed [] m = sym (append-nil m.owed)
entered-owed (j ∷ js) m = refl

entered-asked : (o : List Job) (m : ManagerState) → (entered_at o m).jobs ≡ m.jobs ++ map without_packet (take 1 o)
entered-asked [] m = sym (append-nil m.jobs)
entered-asked (j ∷ js) m = refl

entered-opened : (o : List Job) (m : ManagerState) → m.opened ≡ o → (entered_at o m).opened ≡ drop 1 o
entered-opened [] m is = is
entered-opened (j ∷ js) m is = refl

made-owed : (c : Call) (notes : Option (List Known)) (m : ManagerState) → (made_by c notes m).owed ≡ owed_in c m
made-owed call.Submit notes m = entered-owed m.opened m
made-owed call.Completed notes m = refl
made-owed call.Flush notes m = refl

made-asked : (c : Call) (notes : Option (List Known)) (m : ManagerState) (jobs : List Job) → m.jobs ≡ map without_packet jobs
    → (made_by c notes m).jobs ≡ map without_packet (jobs ++ job_entered c m.opened)
made-asked call.Submit notes m jobs are =
    entered-asked m.opened m ∙ ap (λ (js : List Job). js ++ map without_packet (take 1 m.opened)) are
    ∙ sym (map-append without_packet jobs (take 1 m.opened))
made-asked call.Completed notes m jobs are = are ∙ ap (map without_packet) (sym (append-nil jobs))
made-asked call.Flush notes m jobs are = are ∙ ap (map without_packet) (sym (append-nil jobs))

made-opened : (c : Call) (notes : Option (List Known)) (m : ManagerState)
    → map given_range (made_by c notes m).opened ≡ filled_after c (map given_range m.opened)
made-opened call.Submit notes m =
    ap (map given_range) (entered-opened m.opened m refl) ∙ sym (drop-map given_range 1 m.opened)
made-opened call.Completed notes m = refl
made-opened call.Flush notes m = refl

pub made-of-jobs : (c : Call) (notes : Option (List Known)) (m : ManagerState) → AreOfJobs m → AreOfJobs (made_by c notes m)
made-of-jobs c notes m are = record {
  jobs = are.jobs ++ job_entered c m.opened;
  results = made-owed c notes m ∙ results-in c m are.jobs are.results;
  asked = made-asked c notes m are.jobs are.asked;
}

pub made-ranged : (c : Call) (notes : Option (List Known)) (m : ManagerState) → AreOfJobs m
    → ranged (made_by c notes m) notes ≡ gone c (ranged m notes)
unfolding made-of-jobs
made-ranged c notes m are =
    ap₂ (λ (rs : List CipherRange) (fs : List CipherRange). record { manager = made_by c notes m; ranges = rs; filled = fs; notes = notes })
    (ranges-are (made_by c notes m) (made-of-jobs c notes m are)
    ∙ sym (ranges-in c m.opened (ranges_owed m.owed m.jobs) (map given_range m.opened) are.jobs (ranges-are m are) refl))
    (made-opened c notes m)

-- ---- giving back

given-asked : (ds : List Done) (left : List (List Pending)) (m : ManagerState)
    → (given_at ds left m).1.jobs ≡ drop (length (option_to_list (given_at ds left m).0)) m.jobs
given-asked [] left m = refl
given-asked (d ∷ ds) [] m = refl
given-asked (d ∷ ds) ([] ∷ left) m = refl
given-asked (d ∷ ds) ((p ∷ ps) ∷ left) m = refl

pub given-of-jobs : (m : ManagerState) → AreOfJobs m → AreOfJobs (after_get_completed m).1
given-of-jobs m are =
    let done = (after_get_completed m).0 in
    record {
      jobs = drop (length (option_to_list done)) are.jobs;
      results = results-left done (after_get_completed m).1.owed m.owed are.jobs (given-order m) are.results;
      asked = given-asked m.owed m.machine.left m ∙ ap (drop (length (option_to_list done))) are.asked
          ∙ drop-map without_packet (length (option_to_list done)) are.jobs;
    }

pub given-ranged : (notes : Option (List Known)) (m : ManagerState) → AreOfJobs m
    → ranged (after_get_completed m).1 notes ≡ (given_first (ranged m notes)).1
unfolding given-of-jobs
given-ranged notes m are =
    let done = (after_get_completed m).0 in
    let after : ManagerState = (after_get_completed m).1 in
    ap₂ (λ (rs : List CipherRange) (fs : List CipherRange). record { manager = after; ranges = rs; filled = fs; notes = notes })
    (ranges-are after (given-of-jobs m are) ∙ sym (ranges-left done (ranges_owed m.owed m.jobs) are.jobs (ranges-are m are)))
    (ap (map given_range) (given-opened m.owed m.machine.left m))

-- a whole call is the two
pub step-gone : (c : Call) (k : RangedState) → step c k ≡ given_first (gone c k)
step-gone call.Submit k = refl
step-gone call.Completed k = refl
step-gone call.Flush k = refl

-- ---- the first range

-- as the manager tells it
abbrev pub as_range : ℕ × ℕ → CipherRange
as_range r = record { off = r.0; len = r.1 }

as-written : (c : Cipher) (j : Job) → written_range c j ≡ as_range (range_if (not (is_null_cipher c)) j)
as-written cipher.Null j = refl
as-written cipher.Cbc j = refl
as-written cipher.Ctr j = refl
as-written cipher.Gcm j = refl
as-written cipher.Ccm j = refl

as-owed : (s : Status) (j : Job) → range_owed s j ≡ as_range (written_by s j)
as-owed status.Ok j = as-written j.cipher j
as-owed (status.InvalidArgs reason) j = refl

first-owed : (ds : List Done) (js : List Job) → slice_get (ranges_owed ds js) 0 ≡ option_map as_range (first_range_at ds js)
first-owed [] js = refl
first-owed (d ∷ ds) [] = refl
first-owed (d ∷ ds) (j ∷ js) = ap Some (as-owed d.status j)

pub first-of : (m : ManagerState) → slice_get (ranges_owed m.owed m.jobs) 0 ≡ option_map as_range (first_range m)
first-of m = first-owed m.owed m.jobs

-- the first of these results is given back: its range is the one that is returned, and is within its packet
first-result : (jobs : List Job) (d : Done) (after : List Done) (r : CipherRange) → d ∷ after ≡ map result_of jobs
    → slice_get (map given_range jobs) 0 ≡ Some r → r.off + r.len ≤ length d.packet
first-result [] d after r order is = cc
first-result (j ∷ js) d after r order is =
    let same : given_range j ≡ r = cc in
    let first : result_of j ≡ d = sym (ap (head_or d) order) in
    subst (λ (x : CipherRange). x.off + x.len ≤ length d.packet) same
    (subst (λ (e : Done). (given_range j).off + (given_range j).len ≤ length e.packet) first (given-within j))

some-result : (jobs : List Job) (d : Done) (after : List Done) → d ∷ after ≡ map result_of jobs → slice_get (map given_range jobs) 0 ≢ None
some-result [] d after order is = cc
some-result (j ∷ js) d after order is = cc

pub first-within : (m : ManagerState) (d : Done) (after : List Done) (off len : ℕ) → AreOfJobs m → d ∷ after ≡ m.owed → first_range m ≡ Some (off, len)
    → off + len ≤ length d.packet
first-within m d after off len are order is =
    first-result are.jobs d after (as_range (off, len)) (order ∙ are.results)
    (ap (λ (rs : List CipherRange). slice_get rs 0) (sym (ranges-are m are)) ∙ first-of m ∙ ap (option_map as_range) is)

pub first-returned : (m : ManagerState) (d : Done) (after : List Done) → AreOfJobs m → d ∷ after ≡ m.owed → first_range m ≢ None
first-returned m d after are order is =
    some-result are.jobs d after (order ∙ are.results)
    (ap (λ (rs : List CipherRange). slice_get rs 0) (sym (ranges-are m are)) ∙ first-of m ∙ ap (option_map as_range) is)

module _ {A : Type 0} where
  pub first-same : (xs : List A) (x : A) → slice_get xs 0 ≡ Some x → set xs 0 x ≡ xs
  first-same [] x is = refl
  first-same (z ∷ xs) x is = let same : z ≡ x = cc in ap (λ (y : A). y ∷ xs) (sym same)

-- ---- room

shorter : (c : Cipher) (j : Job) → (written_range c j).len ≤ j.cipher_len
shorter cipher.Null j = omega arith
shorter cipher.Cbc j = omega arith
shorter cipher.Ctr j = omega arith
shorter cipher.Gcm j = omega arith
shorter cipher.Ccm j = omega arith

given-shorter : (reason : Option Reason) (j : Job) → (range_by reason j).len ≤ j.cipher_len
given-shorter None j = shorter j.cipher j
given-shorter (Some reason) j = omega arith

-- if there is room for the range that a job says, there is for the one that it gives back
pub shorter-fits : (j : Job) (room : ℕ) (tag : Bool) → (nat_le j.cipher_len room && tag) ≡ true → (nat_le (given_range j).len room && tag) ≡ true
shorter-fits j room tag fits =
    let parts = and_parts (nat_le j.cipher_len room) tag fits in
    let within : j.cipher_len ≤ room = leb-true j.cipher_len room parts.0 in
    let less = given-shorter (verdict j) j in
    and_from (nat_le (given_range j).len room) tag (le-leb (given_range j).len room (omega arith)) parts.1
