-- What is owed while a course's packet is out in a lane.
use Rattle.std.proofs.Common.{◌≡◌, ◌<◌, ◌∙◌, ℕ, List, [], ◌∷◌, length, take, Option, Some, None, ap, ap₂, subst, sym, refl, arith}
use Rattle.mbj_types.specs.Auths.{class_of}
use Rattle.mbj_types.specs.Result.{ciphered, mac_by, tag_over}
use Rattle.mbj_types.specs.declared.job.Job.{Job}
use Rattle.mbj_types.specs.declared.reason.Reason.{Reason}
use Rattle.mbj_stage.specs.declared.lengths.Lengths.{Lengths}
use Rattle.mbj_stage.specs.declared.stage.Step.{Step}
use Rattle.mbj_stage.specs.declared.stage.Step.TheVariants as step
use Rattle.mbj_types.specs.declared.kind.Kind.{Kind}
use Rattle.mbj_stage.specs.declared.stage.Stage.TheVariants as stage
use Rattle.mbj_stage.specs.Steps.{stage_at}
use Rattle.mbj_stage.specs.Inside.Kept.{IsNextStep}
use Rattle.mbj_stage.specs.CourseState.{CourseState, ccm_mac_over, led_to, owed, packet_after, stage_of, with_mac}
use Rattle.mbj_stage.specs.Handing.{End, IsForLanes, OwesTheSame, stage_end, handed_out, left_behind, owed_with, taken_back, taken_back_at, without_packet}

-- the course with its packet out, were these its steps
abbrev out_by : List Step → CourseState → CourseState
out_by all c = record c { job = left_behind all c.job; out = Some (length c.job.packet) }

-- the end of a step, taken back, does that step
back-ran : (s : Step) (left : List Step) (c : CourseState) → IsForLanes s
    → owed (taken_back_at (s ∷ left) (stage_end s c.job) (out_by (s ∷ left) c)) ≡ led_to c.reason (s ∷ left) c.job c.tag
unfolding owed tag_over
back-ran step.Cipher left c h = refl
back-ran step.Auth left c h = refl
back-ran step.Gcm left c h = absurd h
back-ran step.CcmMac left c h = refl
back-ran step.CcmText left c h = absurd h
back-ran step.Gmac left c h = absurd h

owes : (all : List Step) (c : CourseState) (s : Step) (left : List Step) → all ≡ s ∷ left → IsForLanes s
    → owed (taken_back_at all (stage_end s c.job) (out_by all c)) ≡ led_to c.reason all c.job c.tag
owes all c s left e h =
    ap (λ (steps : List Step). owed (taken_back_at steps (stage_end s c.job) (out_by steps c))) e
    ∙ back-ran s left c h
    ∙ sym (ap (λ (steps : List Step). led_to c.reason steps c.job c.tag) e)

pub owes-the-same : (c : CourseState) → OwesTheSame c
unfolding owed
owes-the-same c s left e h = owes c.left c s left e h

-- ---- what a course owes whose packet went out

out-text : (all : List Step) (c : CourseState) (e : End) → IsNextStep step.Cipher all → e.packet ≡ packet_after step.Cipher c.job c.job.packet
    → owed (taken_back_at all e (out_by all c)) ≡ led_to c.reason all c.job c.tag
unfolding owed
out-text [] c e h is = absurd h
out-text (step.Cipher ∷ left) c e h is = ap (λ (q : List ℕ). led_to c.reason left (record c.job { packet = q }) c.tag) is
out-text (step.Auth ∷ left) c e h is = absurd (cc)
out-text (step.Gcm ∷ left) c e h is = absurd (cc)
out-text (step.CcmMac ∷ left) c e h is = absurd (cc)
out-text (step.CcmText ∷ left) c e h is = absurd (cc)
out-text (step.Gmac ∷ left) c e h is = absurd (cc)

-- in an entry that ciphers
pub owes-text : (c : CourseState) (e : End) → IsNextStep step.Cipher c.left → e.packet ≡ ciphered c.job c.job.packet → owed_with e (handed_out c) ≡ owed c
unfolding owed
owes-text c e h is = out-text c.left c e h is

out-mac : (all : List Step) (c : CourseState) (e : End) → IsNextStep step.Auth all → e.packet ≡ c.job.packet
    → e.mac ≡ mac_by (class_of c.job.auth) c.job c.job.packet
    → owed (taken_back_at all e (out_by all c)) ≡ led_to c.reason all c.job c.tag
unfolding owed tag_over
out-mac [] c e h is m = absurd h
out-mac (step.Cipher ∷ left) c e h is m = absurd (cc)
out-mac (step.Auth ∷ left) c e h is m =
    ap₂ (λ (q t : List ℕ). led_to c.reason left (record c.job { packet = q }) (take c.job.tag_len t)) is m
out-mac (step.Gcm ∷ left) c e h is m = absurd (cc)
out-mac (step.CcmMac ∷ left) c e h is m = absurd (cc)
out-mac (step.CcmText ∷ left) c e h is m = absurd (cc)
out-mac (step.Gmac ∷ left) c e h is m = absurd (cc)

-- in an entry that authenticates
pub owes-mac : (c : CourseState) (e : End) → IsNextStep step.Auth c.left → e.packet ≡ c.job.packet
    → e.mac ≡ mac_by (class_of c.job.auth) c.job c.job.packet → owed_with e (handed_out c) ≡ owed c
unfolding owed
owes-mac c e h is m = out-mac c.left c e h is m

-- what an entry of CCM's MAC ends as, over a job's packet
pub record IsCcmEnd (j : Job) (e : End) : Type 0 where
  pub packet : e.packet ≡ j.packet
  pub iv : e.iv ≡ j.iv
  pub aad : e.aad ≡ j.aad
  pub mac : e.mac ≡ ccm_mac_over j j.packet

out-ccm : (all : List Step) (c : CourseState) (e : End) → IsNextStep step.CcmMac all → IsCcmEnd c.job e
    → owed (taken_back_at all e (out_by all c)) ≡ led_to c.reason all c.job c.tag
unfolding owed
out-ccm [] c e h is = absurd h
out-ccm (step.Cipher ∷ left) c e h is = absurd (cc)
out-ccm (step.Auth ∷ left) c e h is = absurd (cc)
out-ccm (step.Gcm ∷ left) c e h is = absurd (cc)
out-ccm (step.CcmMac ∷ left) c e h is =
    ap₂ (λ (iv aad : List ℕ). led_to c.reason left (record c.job { packet = e.packet; iv = iv; aad = aad }) (with_mac c.job.tag_len e.mac c.job.dir c.tag)) is.iv is.aad
    ∙ ap₂ (λ (q m : List ℕ). led_to c.reason left (record c.job { packet = q }) (with_mac c.job.tag_len m c.job.dir c.tag)) is.packet is.mac
out-ccm (step.CcmText ∷ left) c e h is = absurd (cc)
out-ccm (step.Gmac ∷ left) c e h is = absurd (cc)

-- in an entry of CCM's MAC
pub owes-ccm : (c : CourseState) (e : End) → IsNextStep step.CcmMac c.left → IsCcmEnd c.job e → owed_with e (handed_out c) ≡ owed c
unfolding owed
owes-ccm c e h is = out-ccm c.left c e h is

-- ---- whose job it is

-- what an entry that does this step has of the job comes back as it is
abbrev pub IsOwn : Step → End → Job → Type 0
IsOwn step.CcmMac e j = (e.iv ≡ j.iv) × (e.aad ≡ j.aad)
IsOwn s e j = Unit {0}

own-at : (all : List Step) (c : CourseState) (e : End) (s : Step) → IsNextStep s all → IsOwn s e c.job
    → without_packet (taken_back_at all e (out_by all c)).job ≡ without_packet c.job
own-at [] c e s h own = absurd h
own-at (step.Cipher ∷ left) c e s h own = refl
own-at (step.Auth ∷ left) c e s h own = refl
own-at (step.Gcm ∷ left) c e s h own = refl
own-at (step.CcmMac ∷ left) c e s h own =
    let of : IsOwn step.CcmMac e c.job = subst (λ (t : Step). IsOwn t e c.job) (sym h) own in
    ap₂ (λ (iv aad : List ℕ). record c.job { packet = []; iv = iv; aad = aad }) of.0 of.1
own-at (step.CcmText ∷ left) c e s h own = refl
own-at (step.Gmac ∷ left) c e s h own = refl

-- the job is the course's own once the packet is back
pub own-back : (c d : CourseState) (e : End) (s : Step) → d ≡ handed_out c → IsNextStep s c.left → IsOwn s e c.job
    → without_packet (taken_back e d).job ≡ without_packet c.job
own-back c d e s is h own = ap (λ (x : CourseState). without_packet (taken_back e x).job) is ∙ own-at c.left c e s h own

-- ---- the course whose packet came back

-- a course by its fields
abbrev pub going : Lengths → Job → List ℕ → Option Reason → List Step → Option ℕ → CourseState
going n j tag reason left out = record { job = j; tag = tag; reason = reason; left = left; out = out; lengths = n }

-- ---- the stages of a course whose packet is out

-- once it is taken back the packet is here, and a stage less is left
pub record IsBack (new old : CourseState) : Type 0 where
  pub here : new.out ≡ None
  pub fewer : length new.left < length old.left

back-at : (left : List Step) (c d : CourseState) (e : End) (k : Kind) → stage_at c.job left ≡ stage.Lane k
    → ((taken_back_at left e d).out ≡ None) × (length (taken_back_at left e d).left < length left)
back-at [] c d e k h = absurd (cc)
back-at (s ∷ left) c d e k h = (refl, omega arith)

pub is-back : (c d f : CourseState) (e : End) (k : Kind) → d ≡ handed_out c → stage_of c ≡ stage.Lane k → f ≡ taken_back e d → IsBack f c
is-back c d f e k out next back =
    let is : f ≡ taken_back e (handed_out c) = back ∙ ap (taken_back e) out in
    let b = back-at c.left c (handed_out c) e k next in
    record { here = ap (λ (x : CourseState). x.out) is ∙ b.0; fewer = subst (λ (x : CourseState). length x.left < length c.left) (sym is) b.1 }
