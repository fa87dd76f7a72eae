-- What is asked for in a course stays as the course goes on, and the steps left stay the last ones of its job.
use Rattle.std.proofs.Common.{◌≡◌, ℕ, List, [], ◌∷◌, ◌++◌, Option, Some, None, refl, ap, sym, ◌∙◌, append_assoc, append-nil}
use Rattle.mbj_types.specs.Verdict.{verdict}
use Rattle.mbj_types.specs.declared.job.Cipher.{Cipher}
use Rattle.mbj_types.specs.declared.job.Cipher.TheVariants as cipher
use Rattle.mbj_types.specs.declared.job.Job.{Job}
use Rattle.mbj_types.specs.declared.reason.Reason.{Reason}
use Rattle.mbj_stage.specs.declared.stage.Step.{Step}
use Rattle.mbj_stage.specs.declared.stage.Step.TheVariants as step
use Rattle.mbj_stage.specs.Steps.{steps_by, steps_of, steps_with}
use Rattle.mbj_stage.specs.CourseState.{CourseState, begun, packet_after, ran, ran_at}
use Rattle.mbj_stage.specs.Handing.{End, brought_back, handed_out, left_behind, taken_back, taken_back_at}
use Rattle.mbj_manager.specs.Entries.{HasJobSteps}
use Rattle.mbj_manager.specs.Inside.Courses.{asked}

-- ---- what is asked for

ran-asked-at : (left : List Step) (c : CourseState) → asked (ran_at c left) ≡ asked c
ran-asked-at [] c = refl
ran-asked-at (s ∷ left) c = refl

-- a stage is done at once
pub ran-asked : (c : CourseState) → asked (ran c) ≡ asked c
ran-asked c = ran-asked-at c.left c

-- ---- the steps that are left

begun-by : (reason : Option Reason) (j : Job) → (before : List Step) × (before ++ steps_by reason j ≡ steps_of j)
begun-by None j = ([], refl)
begun-by (Some reason) j = (steps_of j, append-nil (steps_of j))

-- of a course with nothing done they are all, or none if the job is refused
pub begun-steps : (j : Job) → HasJobSteps (begun j)
begun-steps j = let b = begun-by (verdict j) j in record { before = b.0; are = b.1 }

-- packet, IV and additional data have no part in the steps
steps-texts : (c : Cipher) (j : Job) (p iv aad : List ℕ) → steps_with c (record j { packet = p; iv = iv; aad = aad }) ≡ steps_with c j
steps-texts cipher.Null j p iv aad = refl
steps-texts cipher.Cbc j p iv aad = refl
steps-texts cipher.Ctr j p iv aad = refl
steps-texts cipher.Gcm j p iv aad = refl
steps-texts cipher.Ccm j p iv aad = refl

steps-packet : (j : Job) (p : List ℕ) → steps_of (record j { packet = p }) ≡ steps_of j
steps-packet j p = steps-texts j.cipher j p j.iv j.aad

-- what stays of a job whose packet is out has the same steps
behind-steps : (left : List Step) (j : Job) → steps_of (left_behind left j) ≡ steps_of j
behind-steps [] j = steps-packet j []
behind-steps (step.Cipher ∷ left) j = steps-packet j []
behind-steps (step.Auth ∷ left) j = steps-packet j []
behind-steps (step.Gcm ∷ left) j = steps-packet j []
behind-steps (step.Gmac ∷ left) j = steps-packet j []
behind-steps (step.CcmMac ∷ left) j = steps-texts j.cipher j [] [] []
behind-steps (step.CcmText ∷ left) j = steps-packet j []

-- so has the job with what an entry brings back
brought-steps : (s : Step) (e : End) (j : Job) → steps_of (brought_back s e j) ≡ steps_of j
brought-steps step.Cipher e j = steps-packet j e.packet
brought-steps step.Auth e j = steps-packet j e.packet
brought-steps step.Gcm e j = steps-packet j e.packet
brought-steps step.Gmac e j = steps-packet j e.packet
brought-steps step.CcmMac e j = steps-texts j.cipher j e.packet e.iv e.aad
brought-steps step.CcmText e j = steps-packet j e.packet

-- an entry goes out
pub out-steps : (c : CourseState) → HasJobSteps c → HasJobSteps (handed_out c)
out-steps c own = record { before = own.before; are = own.are ∙ sym (behind-steps c.left c.job) }

-- the first of those that are left is done
one-done : (s : Step) (left : List Step) (c : CourseState) (own : HasJobSteps c) → c.left ≡ s ∷ left → (own.before ++ s ∷ []) ++ left ≡ steps_of c.job
one-done s left c own is = append_assoc own.before (s ∷ []) left ∙ ap (λ steps. own.before ++ steps) (sym is) ∙ own.are

back-steps-at : (left : List Step) (c : CourseState) (e : End) → c.left ≡ left → HasJobSteps c → HasJobSteps (taken_back_at left e c)
back-steps-at [] c e is own = own
back-steps-at (s ∷ left) c e is own = record { before = own.before ++ s ∷ []; are = one-done s left c own is ∙ sym (brought-steps s e c.job) }

-- an entry is taken back
pub back-steps : (c : CourseState) (e : End) → HasJobSteps c → HasJobSteps (taken_back e c)
back-steps c e = back-steps-at c.left c e refl

ran-steps-at : (left : List Step) (c : CourseState) → c.left ≡ left → HasJobSteps c → HasJobSteps (ran_at c left)
ran-steps-at [] c is own = own
ran-steps-at (s ∷ left) c is own =
    record { before = own.before ++ s ∷ []; are = one-done s left c own is ∙ sym (steps-packet c.job (packet_after s c.job c.job.packet)) }

-- a stage is done at once
pub ran-steps : (c : CourseState) → HasJobSteps c → HasJobSteps (ran c)
ran-steps c = ran-steps-at c.left c refl
