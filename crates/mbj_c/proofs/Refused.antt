-- A filling that is refused changes nothing.
use Rattle.std.proofs.Common.{◌≡◌, ◌≢◌, ◌+◌, ◌<◌, ◌∙◌, ℕ, nat_le, Bool, Err, None, Ok, Option, Result, Some, ap, length, refl}
use Rattle.std.specs.Prelude.{option_map, if◌then◌else◌}
use Rattle.std.proofs.lemmas.Bool.{cond_both, lt-leb}
use Rattle.mbj_types.specs.declared.job.Job.{Job}
use Rattle.mbj_ring.specs.declared.ring.TheConstants.{CELLS}
use Rattle.mbj_c.specs.declared.job.RawJob.{RawJob}
use Rattle.mbj_c.specs.declared.words.Words.{Words}
use Rattle.mbj_c.specs.declared.refusal.Refusal.{Refusal}
use Rattle.mbj_c.specs.declared.refusal.Refusal.TheVariants as refusal
use Rattle.mbj_c.specs.Filling.{filled_at, filled_cell, filled_with, job_of_raw, job_with, with_job_at, words_of_raw}
use Rattle.mbj_c.specs.State.{RangedState}

meant-refused : (i : ℕ) (meant : Option Job) (k : RangedState) (q : Refusal) → (filled_with i meant k).0 ≡ Err q → (filled_with i meant k).1 ≡ k
meant-refused i None k q is = refl
meant-refused i (Some j) k q is = absurd (cc)

at-refused : (i : ℕ) (r : RawJob) (k : RangedState) (q : Refusal) → (filled_at i r k).0 ≡ Err q → (filled_at i r k).1 ≡ k
at-refused i r k q =
    cond_both (nat_le CELLS (length k.manager.owed + i)) (Err refusal.Full, k) (filled_with i (job_of_raw r) k)
    (λ (a : Result Unit Refusal × RangedState). a.0 ≡ Err q → a.1 ≡ k) (λ full is. refl) (λ room. meant-refused i (job_of_raw r) k q)

pub refused-kept : (i : ℕ) (r : RawJob) (m : Option RangedState) (q : Refusal) → (filled_cell i r m).0 ≡ Err q → (filled_cell i r m).1 ≡ m
refused-kept i r None q is = refl
refused-kept i r (Some k) q is = ap Some (at-refused i r k q is)

-- no filling is refused for want of memory if there is memory
meant-for-another : (i : ℕ) (meant : Option Job) (k : RangedState) → (filled_with i meant k).0 ≢ Err refusal.Memory
meant-for-another i None k is = absurd (cc)
meant-for-another i (Some j) k is = absurd (cc)

pub at-for-another : (i : ℕ) (r : RawJob) (k : RangedState) → (filled_at i r k).0 ≢ Err refusal.Memory
at-for-another i r k =
    cond_both (nat_le CELLS (length k.manager.owed + i)) (Err refusal.Full, k) (filled_with i (job_of_raw r) k)
    (λ (a : Result Unit Refusal × RangedState). a.0 ≢ Err refusal.Memory) (λ full is. absurd (cc)) (λ room. meant-for-another i (job_of_raw r) k)

pub refused-for-another : (i : ℕ) (r : RawJob) (m : Option RangedState) → (filled_cell i r m).0 ≢ Err refusal.Memory
refused-for-another i r None is = absurd (cc)
refused-for-another i r (Some k) is = at-for-another i r k is

-- a filling that nothing speaks against
pub filled-is : (i : ℕ) (r : RawJob) (w : Words) (k : RangedState) → length k.manager.owed + i < CELLS → words_of_raw r ≡ Some w
    → filled_at i r k ≡ (Ok tt, with_job_at i (job_with r w) k)
filled-is i r w k room meant =
    ap (λ (b : Bool). if b then (Err refusal.Full, k) else filled_with i (job_of_raw r) k) (lt-leb CELLS (length k.manager.owed + i) room)
    ∙ ap (λ (o : Option Words). filled_with i (option_map (job_with r) o) k) meant
