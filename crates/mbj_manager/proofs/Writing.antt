-- The range that the earliest job's cipher writes is read off its course, wherever its packet is.
use Rattle.std.proofs.Common.{◌≡◌, ◌∙◌, ℕ, suc, Bool, true, false, List, [], ◌∷◌, map, Option, Some, None, slice_get, ap, ap₂, refl, sym}
use Rattle.mbj_types.specs.declared.done.Done.{Done}
use Rattle.mbj_types.specs.declared.done.Status.{Status}
use Rattle.mbj_types.specs.declared.job.Job.{Job}
use Rattle.mbj_types.specs.declared.kind.Kind.{Kind}
use Rattle.mbj_types.specs.declared.reason.Reason.{Reason}
use Rattle.mbj_stage.specs.CourseState.{CourseState, led_to, owed, stage_of, status_of, packet_after, tag_after}
use Rattle.mbj_stage.specs.Handing.{End, brought_back, taken_back_at}
use Rattle.mbj_stage.specs.Keys.{uses_key}
use Rattle.mbj_stage.specs.declared.stage.Stage.{Stage}
use Rattle.mbj_stage.specs.declared.stage.Stage.TheVariants as stage
use Rattle.mbj_stage.specs.declared.stage.Step.{Step}
use Rattle.mbj_stage.specs.declared.stage.Step.TheVariants as step
use Rattle.mbj_manager.specs.Cells.{Cell, course_in}
use Rattle.mbj_manager.specs.Inside.Courses.{asked}
use Rattle.mbj_manager.specs.Inside.Held.{back_by, restored, restored_by, restored_from, restored_here}
use Rattle.mbj_manager.specs.Written.{first_range_at, first_range_in, range_if, range_in, written_by}

-- ---- the first cell

pub first-range-is : (vs : List Cell) (v : Cell) → slice_get vs 0 ≡ Some v → first_range_in (map course_in vs) ≡ Some (range_in (course_in v))
first-range-is [] v e = cc
first-range-is (x ∷ vs) v e = let is : x ≡ v = cc in ap (λ (y : Cell). Some (range_in (course_in y))) is

pub first-range-none : (vs : List Cell) → slice_get vs 0 ≡ None → first_range_in (map course_in vs) ≡ None
first-range-none [] e = refl
first-range-none (x ∷ vs) e = cc

-- ---- a course whose entry is taken back

same-range : (b : Bool) (i j : Job) → i.cipher_off ≡ j.cipher_off → i.cipher_len ≡ j.cipher_len → range_if b i ≡ range_if b j
same-range true i j off len = ap₂ (λ (m : ℕ) (n : ℕ). (m, n)) off len
same-range false i j off len = refl

step-back : (s : Step) (left : List Step) (e : End) (c : CourseState) → range_in (taken_back_at (s ∷ left) e c) ≡ range_in c
step-back step.Cipher left e c = same-range (uses_key c.reason c.job.cipher) (brought_back step.Cipher e c.job) c.job refl refl
step-back step.Auth left e c = same-range (uses_key c.reason c.job.cipher) (brought_back step.Auth e c.job) c.job refl refl
step-back step.Gcm left e c = same-range (uses_key c.reason c.job.cipher) (brought_back step.Gcm e c.job) c.job refl refl
step-back step.CcmMac left e c = same-range (uses_key c.reason c.job.cipher) (brought_back step.CcmMac e c.job) c.job refl refl
step-back step.CcmText left e c = same-range (uses_key c.reason c.job.cipher) (brought_back step.CcmText e c.job) c.job refl refl
step-back step.Gmac left e c = same-range (uses_key c.reason c.job.cipher) (brought_back step.Gmac e c.job) c.job refl refl

steps-back : (left : List Step) (e : End) (c : CourseState) → range_in (taken_back_at left e c) ≡ range_in c
steps-back [] e c = refl
steps-back (s ∷ left) e c = step-back s left e c

entry-back : (o : Option End) (c : CourseState) → range_in (back_by c o) ≡ range_in c
entry-back None c = refl
entry-back (Some e) c = steps-back c.left e c

stage-back : (s : Stage) (n : ℕ) (find : Kind → ℕ → Option End) (c : CourseState) → range_in (restored_by s n find c) ≡ range_in c
stage-back stage.Now n find c = refl
stage-back stage.Finished n find c = refl
stage-back (stage.Lane k) n find c = entry-back (find k n) c

here-back : (out : Option ℕ) (c back : CourseState) → range_in back ≡ range_in c → range_in (restored_here out c back) ≡ range_in c
here-back None c back same = refl
here-back (Some n) c back same = same

range-restored : (n : ℕ) (find : Kind → ℕ → Option End) (c : CourseState) → range_in (restored n find c) ≡ range_in c
range-restored n find c = here-back c.out c (restored_by (stage_of c) n find c) (stage-back (stage_of c) n find c)

-- ---- the result

advanced-status : (reason : Option Reason) (left : List Step) (j : Job) (tag : List ℕ) → (led_to reason left j tag).status ≡ status_of reason
advanced-status reason [] j tag = refl
advanced-status reason (s ∷ left) j tag =
    advanced-status reason left (record j { packet = packet_after s j j.packet }) (tag_after s j j.packet tag)

owed-status : (c : CourseState) → (owed c).status ≡ status_of c.reason
unfolding owed
owed-status c = advanced-status c.reason c.left c.job c.tag

by-reason : (reason : Option Reason) (j : Job) → written_by (status_of reason) j ≡ range_if (uses_key reason j.cipher) j
by-reason None j = refl
by-reason (Some r) j = refl

by-course : (c : CourseState) → written_by (owed c).status (asked c) ≡ range_in c
by-course c =
    ap (λ (s : Status). written_by s (asked c)) (owed-status c) ∙ by-reason c.reason (asked c)
    ∙ same-range (uses_key c.reason c.job.cipher) (asked c) c.job refl refl

-- what is owed and asked for tells the range of the first course
pub first-range-held : (n : ℕ) (find : Kind → ℕ → Option End) (cs : List CourseState)
    → first_range_at (map owed (restored_from n find cs)) (map asked (restored_from n find cs)) ≡ first_range_in cs
first-range-held n find [] = refl
first-range-held n find (c ∷ cs) =
    ap (λ (r : ℕ × ℕ). Some r) (by-course (restored n find c) ∙ range-restored n find c)
