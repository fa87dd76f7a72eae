-- Which cell of a submitter is claimed: the first one that is ready.
use Rattle.std.proofs.Common.{◌≡◌, ◌∙◌, ◌+◌, ◌-◌, ◌<◌, ap, sym, subst, refl, ℕ, suc, map, Option, None, Some, arith}
use Rattle.std.specs.List.{range_with_len}
use Rattle.mbj_types.specs.declared.job.Job.{Job}
use Rattle.mbj_types.specs.declared.done.Done.{Done}
use Rattle.mbj_core.specs.Cells.{Cell, free, ready, done, open_by, hand_of, take_by, cell_of}
use Rattle.mbj_core.specs.CoreStates.{CoreState, HasJob, cell_in, jobs_out}
use Rattle.mbj_replay.specs.Inside.Claiming.{ClaimsAt}
use Rattle.mbj_replay.specs.Replay.{cells_out, first_ready, job_or}

passes : (x : Option (Cell Job Done)) (cell : ℕ) (later : Option (ℕ × Job)) → ((job : Job) → ¬ (x ≡ Some (ready job))) → job_or x cell later ≡ later
passes None cell later none = refl
passes (Some free) cell later none = refl
passes (Some (ready job)) cell later none = absurd (none job refl)
passes (Some (done d)) cell later none = refl
passes (Some (open_by p)) cell later none = refl
passes (Some (hand_of p d)) cell later none = refl
passes (Some (take_by p)) cell later none = refl

-- the cells of the numbers from n on, as many as are left
abbrev pub ready_from : CoreState → ℕ → ℕ → ℕ → Option (ℕ × Job)
ready_from c s n left = first_ready c (map (cell_of s) (range_with_len n left))

one-cell : (c : CoreState) (s first count end : ℕ) → count < end
    → ready_from c s (first + count) (end - count)
    ≡ job_or (cell_in c (cell_of s (first + count))) (cell_of s (first + count)) (ready_from c s (first + (count + 1)) (end - (count + 1)))
one-cell c s first count end below =
    let some : end - count ≡ suc (end - (count + 1)) = omega arith in
    let next : (first + count) + 1 ≡ first + (count + 1) = omega arith in
    ap (ready_from c s (first + count)) some
    ∙ ap (λ n. job_or (cell_in c (cell_of s (first + count))) (cell_of s (first + count)) (ready_from c s n (end - (count + 1)))) next

-- a cell that isn't ready is passed over
pub unready-passed : (old core new : CoreState) (s cell count end : ℕ) → core ≡ old → new ≡ core → count < end
    → cell ≡ cell_of s ((jobs_out core s).first + count) → ((job : Job) → ¬ HasJob core cell job)
    → ready_from core s ((jobs_out core s).first + count) (end - count) ≡ first_ready old (cells_out old s)
    → ready_from new s ((jobs_out new s).first + (count + 1)) (end - (count + 1)) ≡ first_ready old (cells_out old s)
unready-passed old core new s cell count end same stays below at none left =
    let first = (jobs_out core s).first in
    let here : (job : Job) → ¬ HasJob core (cell_of s (first + count)) job = subst (λ (i : ℕ). (job : Job) → ¬ HasJob core i job) at none in
    ap (λ (c : CoreState). ready_from c s ((jobs_out c s).first + (count + 1)) (end - (count + 1))) stays
    ∙ sym (one-cell core s first count end below ∙ passes _ _ _ here) ∙ left

-- the first cell that is ready is claimed
pub earliest-claimed : (old core new : CoreState) (p s cell count end : ℕ) → core ≡ old → ClaimsAt core p cell new → count < end
    → cell ≡ cell_of s ((jobs_out core s).first + count)
    → ready_from core s ((jobs_out core s).first + count) (end - count) ≡ first_ready old (cells_out old s)
    → (x : ClaimsAt old p cell new) × (first_ready old (cells_out old s) ≡ Some (cell, x.job))
earliest-claimed old core new p s cell count end same claims below at left =
    let first = (jobs_out core s).first in
    let later = ready_from core s (first + (count + 1)) (end - (count + 1)) in
    let found : ready_from core s (first + count) (end - count) ≡ Some (cell, claims.job)
    = one-cell core s first count end below
    ∙ ap (λ (i : ℕ). job_or (cell_in core i) i later) (sym at)
    ∙ ap (λ x. job_or x cell later) claims.is_ready in
    subst (λ (c : CoreState). (x : ClaimsAt c p cell new) × (first_ready old (cells_out old s) ≡ Some (cell, x.job))) same
    (claims, sym left ∙ found)
