-- A course whose packet is out in a lane: how it is handed out and taken back, and what is owed meanwhile.
use Rattle.std.specs.Prelude.{◌≡◌, ◌≤◌, ℕ, List, [], ◌∷◌, length, take, None, Some}
use Rattle.mbj_types.specs.Auths.{class_of}
use Rattle.mbj_types.specs.Result.{mac_by}
use Rattle.mbj_types.specs.declared.job.Job.{Job}
use Rattle.mbj_types.specs.declared.done.Done.{Done}
use Rattle.mbj_stage.specs.declared.lengths.Lengths.{Lengths}
use Rattle.mbj_stage.specs.declared.stage.Step.{Step}
use Rattle.mbj_stage.specs.declared.stage.Step.TheVariants as step
use Rattle.mbj_types.specs.Rounds.{rounds_of}
use Rattle.mbj_types.specs.declared.kind.Kind.{Kind}
use Rattle.mbj_stage.specs.declared.stage.Stage.TheVariants as stage
use Rattle.mbj_stage.specs.CourseState.{CourseState, ccm_mac_over, owed, packet_after, sized, stage_of, with_mac}
use Rattle.mbj_stage.specs.Steps.{step_of}

-- what an entry holds when its rounds are done: the packet; the whole value of a digest, an HMAC or a CMAC, or CCM's MAC, which a
-- cipher's entry doesn't have; and CCM's nonce and additional data, which no other entry has
pub record End : Type 0 where
  pub packet : List ℕ
  pub mac : List ℕ
  pub iv : List ℕ
  pub aad : List ℕ

-- what stays of a job whose packet is out in an entry, which does the first of these steps
abbrev pub left_behind : List Step → Job → Job
left_behind (step.CcmMac ∷ left) j = record j { packet = []; iv = []; aad = [] }
left_behind left j = record j { packet = [] }

-- the course with its packet out in an entry
abbrev pub handed_out : CourseState → CourseState
handed_out c = record c { job = left_behind c.left c.job; out = Some (length c.job.packet) }

-- the job with what an entry brings back
abbrev pub brought_back : Step → End → Job → Job
brought_back step.CcmMac e j = record j { packet = e.packet; iv = e.iv; aad = e.aad }
brought_back s e j = record j { packet = e.packet }

-- the tag once an entry's end is taken back
abbrev pub tag_back : Step → Job → List ℕ → List ℕ → List ℕ
tag_back step.Cipher j mac tag = tag
tag_back step.Auth j mac tag = take j.tag_len mac
tag_back step.Gcm j mac tag = tag
tag_back step.CcmMac j mac tag = with_mac j.tag_len mac j.dir tag
tag_back step.CcmText j mac tag = tag
tag_back step.Gmac j mac tag = tag

abbrev pub taken_back_at : List Step → End → CourseState → CourseState
taken_back_at [] e c = c
taken_back_at (s ∷ left) e c = record {
  job = brought_back s e c.job;
  tag = tag_back s c.job e.mac c.tag;
  reason = c.reason;
  left = left;
  out = None;
  lengths = c.lengths;
}

-- the course once its entry's end is taken back, which does the first of its steps
abbrev pub taken_back : End → CourseState → CourseState
taken_back e c = taken_back_at c.left e c

-- a job but for its packet
abbrev pub without_packet : Job → Job
without_packet j = record j { packet = [] }

-- what the course owes whose entry, which is out, ends so
abbrev pub owed_with : End → CourseState → Done
owed_with e c = owed (taken_back e c)

-- a stage in the kind's lanes is next, and the packet is here
pub record IsNext (k : Kind) (c : CourseState) : Type 0 where
  pub stage : stage_of c ≡ stage.Lane k
  pub here : c.out ≡ None

-- an entry that does this step brings a nonce and data of these lengths back, if it has them
abbrev pub BringsData : Step → Lengths → End → Type 0
BringsData step.CcmMac n e = (length e.iv ≡ n.iv) × (length e.aad ≡ n.aad)
BringsData s n e = Unit {0}

-- the course has an entry of the kind out, which brings back the end e, as long as what went out
pub record IsOut (k : Kind) (e : End) (c : CourseState) : Type 0 where
  pub stage : stage_of c ≡ stage.Lane k
  pub packet : c.out ≡ Some (length e.packet)
  pub texts : BringsData (step_of k) c.lengths e

-- the packet went out of the course old, in an entry of the kind with this rest and end
pub record IsHandedOut (k : Kind) (rest : ℕ) (e : End) (new old : CourseState) : Type 0 where
  pub out : new ≡ handed_out old
  pub rest_is : rest ≡ rounds_of k (sized old.lengths old.job)
  pub some : 1 ≤ rest
  pub owed_is : owed_with e new ≡ owed old
  pub job_is : without_packet (taken_back e new).job ≡ without_packet old.job
  pub is_out : IsOut k e new

-- the value that an entry makes for this step
abbrev pub stage_mac : Step → Job → List ℕ
stage_mac step.CcmMac j = ccm_mac_over j j.packet
stage_mac s j = mac_by (class_of j.auth) j j.packet

-- the end of an entry that does this step
abbrev pub stage_end : Step → Job → End
stage_end s j = record { packet = packet_after s j j.packet; mac = stage_mac s j; iv = j.iv; aad = j.aad }

-- a step that is done in a lane: a cipher or an authentication alone, or CCM's MAC
abbrev pub IsForLanes : Step → Type 0
IsForLanes step.Cipher = Unit {0}
IsForLanes step.Auth = Unit {0}
IsForLanes step.Gcm = ⊥
IsForLanes step.CcmMac = Unit {0}
IsForLanes step.CcmText = ⊥
IsForLanes step.Gmac = ⊥

-- a course owes the same while its packet is out in an entry that does its first step
abbrev pub OwesTheSame : CourseState → Type 0
OwesTheSame c = (s : Step) (left : List Step) → c.left ≡ s ∷ left → IsForLanes s → owed_with (stage_end s c.job) (handed_out c) ≡ owed c
