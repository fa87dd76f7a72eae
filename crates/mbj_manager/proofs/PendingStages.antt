-- The stages that are left of a course, as its steps are done.
use Rattle.std.proofs.Common.{◌≡◌, ◌≢◌, ℕ, List, [], ◌∷◌, ◌++◌, refl, sym, ap, ap₂, ◌∙◌}
use Rattle.mbj_types.specs.declared.job.Job.{Job}
use Rattle.mbj_types.specs.declared.kind.Kind.{Kind}
use Rattle.mbj_types.specs.declared.kind.Kind.TheVariants as kind
use Rattle.mbj_types.specs.Rounds.{rounds_of}
use Rattle.mbj_stage.specs.declared.stage.Stage.{Stage}
use Rattle.mbj_stage.specs.declared.stage.Stage.TheVariants as stage
use Rattle.mbj_stage.specs.declared.stage.Step.{Step}
use Rattle.mbj_stage.specs.Steps.{stage_at}
use Rattle.mbj_stage.specs.declared.lengths.Lengths.{Lengths}
use Rattle.mbj_stage.specs.declared.stage.Step.TheVariants as step
use Rattle.mbj_stage.specs.CourseState.{CourseState, ran, ran_at, sized, stage_of}
use Rattle.mbj_stage.specs.Handing.{End, brought_back, handed_out, left_behind, taken_back, taken_back_at}
use Rattle.mbj_stage.proofs.StagesOf.{finished-left, stage-first, stage-packet, stage-texts}
use Rattle.mbj_manager.specs.Machine.Stages.{Pending, in_lanes, pending, pending_at, pending_by}
use Rattle.mbj_manager.specs.Machine.Course.{in_lanes_next}
use Rattle.std.specs.Prelude.{drop, replicate}

-- ---- the packet has no part in it

rounds-packet : (k : Kind) (j : Job) (p : List ℕ) → rounds_of k (record j { packet = p }) ≡ rounds_of k j
rounds-packet kind.Cbc128 j p = refl
rounds-packet _ j p = refl

by-packet : (s : Stage) (j : Job) (p : List ℕ) → pending_by s (record j { packet = p }) ≡ pending_by s j
by-packet stage.Now j p = refl
by-packet (stage.Lane k) j p = ap (λ (n : ℕ). in_lanes k n ∷ []) (rounds-packet k j p)
by-packet stage.Finished j p = refl

pub pending-packet : (j : Job) (p : List ℕ) (left : List Step) → pending_at (record j { packet = p }) left ≡ pending_at j left
pending-packet j p [] = refl
pending-packet j p (s ∷ left) =
    ap₂ (λ (x y : List Pending). x ++ y)
    (ap (λ (t : Stage). pending_by t (record j { packet = p })) (stage-packet j p (s ∷ [])) ∙ by-packet (stage_at j (s ∷ [])) j p)
    (pending-packet j p left)

-- ---- nor have nonce and data, which may be out

-- the job by which the stages are told
abbrev pub whole : CourseState → Job
whole c = sized c.lengths c.job

pub stage-whole : (c : CourseState) (left : List Step) → stage_at (whole c) left ≡ stage_at c.job left
stage-whole c left = stage-texts c.job (replicate c.lengths.iv 0) (replicate c.lengths.aad 0) left

sized-left : (n : Lengths) (j : Job) (left : List Step) → sized n (left_behind left j) ≡ record (sized n j) { packet = [] }
sized-left n j [] = refl
sized-left n j (step.Cipher ∷ left) = refl
sized-left n j (step.Auth ∷ left) = refl
sized-left n j (step.Gcm ∷ left) = refl
sized-left n j (step.CcmMac ∷ left) = refl
sized-left n j (step.CcmText ∷ left) = refl
sized-left n j (step.Gmac ∷ left) = refl

sized-back : (n : Lengths) (j : Job) (s : Step) (e : End) → sized n (brought_back s e j) ≡ record (sized n j) { packet = e.packet }
sized-back n j step.Cipher e = refl
sized-back n j step.Auth e = refl
sized-back n j step.Gcm e = refl
sized-back n j step.CcmMac e = refl
sized-back n j step.CcmText e = refl
sized-back n j step.Gmac e = refl

-- the stages of a course whose packet goes out
pub pending-out : (c : CourseState) → pending (handed_out c) ≡ pending c
pending-out c = ap (λ (j : Job). pending_at j c.left) (sized-left c.lengths c.job c.left) ∙ pending-packet (whole c) [] c.left

-- ---- a stage at once

-- if the first stage finishes at once, those in lanes are the later ones'
now-next : (s : Stage) (j : Job) (ps : List Pending) → s ≡ stage.Now → in_lanes_next (pending_by s j ++ ps) ≡ in_lanes_next ps
now-next stage.Now j ps e = refl
now-next (stage.Lane k) j ps e = cc
now-next stage.Finished j ps e = cc

ran-next-at : (c : CourseState) (left : List Step) → stage_at c.job left ≡ stage.Now
    → in_lanes_next (pending (ran_at c left)) ≡ in_lanes_next (pending_at (whole c) left)
ran-next-at c [] h = cc
ran-next-at c (s ∷ left) h =
    ap in_lanes_next (pending-packet (whole c) _ left)
    ∙ sym (now-next (stage_at (whole c) (s ∷ [])) (whole c) (pending_at (whole c) left)
    (sym (stage-first (whole c) s left) ∙ stage-whole c (s ∷ left) ∙ h))

pub ran-next : (c : CourseState) → stage_of c ≡ stage.Now → in_lanes_next (pending (ran c)) ≡ in_lanes_next (pending c)
ran-next c h = ran-next-at c c.left h

ran-out-at : (c : CourseState) (left : List Step) → (ran_at c left).out ≡ c.out
ran-out-at c [] = refl
ran-out-at c (s ∷ left) = refl

pub ran-out : (c : CourseState) → (ran c).out ≡ c.out
ran-out c = ran-out-at c c.left

-- ---- a stage in lanes, or none

never-finished : (j : Job) (s : Step) (left : List Step) → stage_at j (s ∷ left) ≢ stage.Finished
never-finished j s left h = let e = finished-left j (s ∷ left) h in cc

-- the first stage is in lanes
lane-by : (s : Stage) (j : Job) (ps : List Pending) (k : Kind) → s ≡ stage.Lane k → pending_by s j ++ ps ≡ in_lanes k (rounds_of k j) ∷ ps
lane-by stage.Now j ps k e = cc
lane-by (stage.Lane i) j ps k e = let is : i ≡ k = cc in ap (λ (x : Kind). in_lanes x (rounds_of x j) ∷ ps) is
lane-by stage.Finished j ps k e = cc

-- the stages behind the first
abbrev pub later_at : Job → List Step → List Pending
later_at j [] = []
later_at j (s ∷ left) = pending_at j left

lane-at : (j : Job) (left : List Step) (k : Kind) → stage_at j left ≡ stage.Lane k
    → pending_at j left ≡ in_lanes k (rounds_of k j) ∷ later_at j left
lane-at j [] k h = cc
lane-at j (s ∷ left) k h = lane-by (stage_at j (s ∷ [])) j (pending_at j left) k (sym (stage-first j s left) ∙ h)

pub pending-lane : (c : CourseState) (k : Kind) → stage_of c ≡ stage.Lane k → pending c ≡ in_lanes k (rounds_of k (whole c)) ∷ later_at (whole c) c.left
pending-lane c k h = lane-at (whole c) c.left k (stage-whole c c.left ∙ h)

pub pending-finished : (c : CourseState) → stage_of c ≡ stage.Finished → pending c ≡ []
pending-finished c h = ap (pending_at (whole c)) (finished-left c.job c.left h)

some-by : (s : Stage) (j : Job) (ps : List Pending) → s ≢ stage.Finished → pending_by s j ++ ps ≢ []
some-by stage.Now j ps f = λ e. cc
some-by (stage.Lane k) j ps f = λ e. cc
some-by stage.Finished j ps f = absurd (f refl)

none-left-at : (j : Job) (left : List Step) → pending_at j left ≡ [] → stage_at j left ≡ stage.Finished
none-left-at j [] h = refl
none-left-at j (s ∷ left) h = absurd (some-by (stage_at j (s ∷ [])) j (pending_at j left) (never-finished j s []) h)

-- a course with no stage left is finished
pub finished-pending : (c : CourseState) → pending c ≡ [] → stage_of c ≡ stage.Finished
finished-pending c h = sym (stage-whole c c.left) ∙ none-left-at (whole c) c.left h

-- ---- a packet that comes back

first-by : (s : Stage) (j : Job) (ps : List Pending) → s ≢ stage.Finished → drop 1 (pending_by s j ++ ps) ≡ ps
first-by stage.Now j ps f = refl
first-by (stage.Lane k) j ps f = refl
first-by stage.Finished j ps f = absurd (f refl)

back-at : (left : List Step) (c : CourseState) (e : End) → c.left ≡ left → pending (taken_back_at left e c) ≡ drop 1 (pending_at (whole c) left)
back-at [] c e is = ap (pending_at (whole c)) is
back-at (s ∷ left) c e is =
    ap (λ (j : Job). pending_at j left) (sized-back c.lengths c.job s e)
    ∙ pending-packet (whole c) e.packet left
    ∙ sym (first-by (stage_at (whole c) (s ∷ [])) (whole c) (pending_at (whole c) left) (never-finished (whole c) s []))

-- the first stage is done
pub pending-back : (c : CourseState) (e : End) → pending (taken_back e c) ≡ drop 1 (pending c)
pending-back c e = back-at c.left c e refl
