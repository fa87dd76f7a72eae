-- A post that is refused changes nothing.
use Rattle.std.proofs.Common.{◌≡◌, ◌≢◌, ◌+◌, ℕ, nat_eq, Err, None, Option, Result, Some, ap, length, refl}
use Rattle.std.specs.Prelude.{if◌then◌else◌}
use Rattle.std.proofs.lemmas.Bool.{cond_both}
use Rattle.mbj_types.specs.declared.job.Job.{Job}
use Rattle.mbj_core.specs.declared.cells.TheConstants.{SUBMITTER_CELLS}
use Rattle.mbj_c.specs.declared.job.RawJob.{RawJob}
use Rattle.mbj_c.specs.declared.refusal.Refusal.{Refusal}
use Rattle.mbj_c.specs.declared.refusal.Refusal.TheVariants as refusal
use Rattle.mbj_c.specs.Filling.{job_of_raw}
use Rattle.mbj_c.specs.Seats.{SeatState, is_submitter, posted, posted_in, posted_with}

meant-kept : (meant : Option Job) (s : SeatState) (q : Refusal) → (posted_with meant s).0 ≡ Err q → (posted_with meant s).1 ≡ s
meant-kept None s q is = refl
meant-kept (Some j) s q is = absurd (cc)

in-kept : (r : RawJob) (s : SeatState) (q : Refusal) → (posted_in r s).0 ≡ Err q → (posted_in r s).1 ≡ s
in-kept r s q =
    let P : Result Unit Refusal × SeatState → Type 0 = λ a. a.0 ≡ Err q → a.1 ≡ s in
    let full = nat_eq (length s.part.due) (s.part.handed + SUBMITTER_CELLS) in
    cond_both (is_submitter s) (if full then (Err refusal.Full, s) else posted_with (job_of_raw r) s) (Err refusal.NotSubmitter, s) P
    (λ submits. cond_both full (Err refusal.Full, s) (posted_with (job_of_raw r) s) P (λ is e. refl) (λ room. meant-kept (job_of_raw r) s q))
    (λ not e. refl)

pub post-kept : (r : RawJob) (m : Option SeatState) (q : Refusal) → (posted r m).0 ≡ Err q → (posted r m).1 ≡ m
post-kept r None q is = refl
post-kept r (Some s) q is = ap Some (in-kept r s q is)

-- no post is refused for want of memory if there is memory
meant-for-another : (meant : Option Job) (s : SeatState) → (posted_with meant s).0 ≢ Err refusal.Memory
meant-for-another None s is = absurd (cc)
meant-for-another (Some j) s is = absurd (cc)

in-for-another : (r : RawJob) (s : SeatState) → (posted_in r s).0 ≢ Err refusal.Memory
in-for-another r s =
    let P : Result Unit Refusal × SeatState → Type 0 = λ a. a.0 ≢ Err refusal.Memory in
    let full = nat_eq (length s.part.due) (s.part.handed + SUBMITTER_CELLS) in
    cond_both (is_submitter s) (if full then (Err refusal.Full, s) else posted_with (job_of_raw r) s) (Err refusal.NotSubmitter, s) P
    (λ submits. cond_both full (Err refusal.Full, s) (posted_with (job_of_raw r) s) P (λ is e. absurd (cc)) (λ room. meant-for-another (job_of_raw r) s))
    (λ not e. absurd (cc))

pub post-for-another : (r : RawJob) (m : Option SeatState) → (posted r m).0 ≢ Err refusal.Memory
post-for-another r None is = absurd (cc)
post-for-another r (Some s) is = in-for-another r s is
