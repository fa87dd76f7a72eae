-- The course of a job: what contracts see of it, how it goes on, and the result to which it leads.
use Rattle.std.specs.Prelude.{◌≡◌, ℕ, List, [], ◌∷◌, length, replicate, take, Option, Some, None, IsSome}
use Rattle.mbj_types.specs.Verdict.{verdict}
use Rattle.mbj_types.specs.Aes.{aes}
use Rattle.mbj_types.specs.Blocks.{xor_lists}
use Rattle.mbj_types.specs.Ccm.{ccm_mac, ccm_mask}
use Rattle.mbj_types.specs.Result.{cipher_range, ciphered, tag_over}
use Rattle.mbj_types.specs.declared.job.Dir.{Dir}
use Rattle.mbj_types.specs.declared.job.Dir.TheVariants.{Enc, Dec}
use Rattle.mbj_types.specs.declared.job.Job.{Job}
use Rattle.mbj_types.specs.declared.done.Done.{Done}
use Rattle.mbj_types.specs.declared.done.Status.{Status}
use Rattle.mbj_types.specs.declared.done.Status.TheVariants as status
use Rattle.mbj_types.specs.declared.reason.Reason.{Reason}
use Rattle.mbj_stage.specs.declared.stage.Stage.{Stage}
use Rattle.mbj_stage.specs.declared.lengths.Lengths.{Lengths}
use Rattle.mbj_stage.specs.declared.stage.Step.{Step}
use Rattle.mbj_stage.specs.declared.stage.Step.TheVariants as step
use Rattle.mbj_stage.specs.Steps.{steps_by, stage_at}

-- a job on its way
pub record CourseState : Type 0 where
  -- the job with its packet as it now is
  pub job : Job
  -- the tag if it is made, else no bytes; between the two steps of CCM what the first of them made
  pub tag : List ℕ
  -- why the job is refused
  pub reason : Option Reason
  -- the steps that are left
  pub left : List Step
  -- the length of the packet if it is out of the course, in a lane
  pub out : Option ℕ
  -- how long the job's IV and data are, also while they are out
  pub lengths : Lengths

-- a course whose job isn't begun, and is any job: no step is left, as in the course of a job that is refused
pub record IsIdle (c : CourseState) : Type 0 where
  pub nothing : c.left ≡ []
  pub refused : IsSome c.reason
  pub here : c.out ≡ None

-- the lengths of a job's IV and data
abbrev pub lengths_of : Job → Lengths
lengths_of j = record { iv = length j.iv; aad = length j.aad }

-- a job with zero bytes for those of IV and data, which may be out: its verdict and its rounds are the same
abbrev pub sized : Lengths → Job → Job
sized n j = record j { iv = replicate n.iv 0; aad = replicate n.aad 0 }

abbrev pub stage_of : CourseState → Stage
stage_of c = stage_at c.job c.left

-- ---- how a course goes on

-- a course with nothing done
abbrev pub begun : Job → CourseState
begun j = record { job = j; tag = []; reason = verdict j; left = steps_by (verdict j) j; out = None; lengths = lengths_of j }

-- what a step makes of the packet p
abbrev pub packet_after : Step → Job → List ℕ → List ℕ
packet_after step.Cipher j p = ciphered j p
packet_after step.Auth j p = p
packet_after step.Gcm j p = ciphered j p
packet_after step.CcmMac j p = p
packet_after step.CcmText j p = ciphered j p
packet_after step.Gmac j p = p

-- CCM's MAC over the packet p, whose cipher range is the plaintext
abbrev pub ccm_mac_over : Job → List ℕ → List ℕ
ccm_mac_over j p = ccm_mac (aes j.key) j.iv j.aad (cipher_range j p) j.tag_len

-- CCM's tag is the MAC xored with the mask, and cut. What is made first of the two stands in the tag's place until the other one
-- comes: the MAC if the text is sealed, the mask if it is opened
abbrev pub with_mac : ℕ → List ℕ → Dir → List ℕ → List ℕ
with_mac tag_len mac Enc tag = mac
with_mac tag_len mac Dec mask = take tag_len (xor_lists mac mask)

abbrev pub with_mask : ℕ → List ℕ → Dir → List ℕ → List ℕ
with_mask tag_len mask Enc mac = take tag_len (xor_lists mac mask)
with_mask tag_len mask Dec tag = mask

-- the tag when a step is done on the packet p
abbrev pub tag_after : Step → Job → List ℕ → List ℕ → List ℕ
tag_after step.Cipher j p tag = tag
tag_after step.Auth j p tag = tag_over j p
tag_after step.Gcm j p tag = tag_over j p
tag_after step.CcmMac j p tag = with_mac j.tag_len (ccm_mac_over j p) j.dir tag
tag_after step.CcmText j p tag = with_mask j.tag_len (ccm_mask (aes j.key) j.iv) j.dir tag
tag_after step.Gmac j p tag = tag_over j p

-- the course with the first of the steps left done
abbrev pub ran_at : CourseState → List Step → CourseState
ran_at c [] = c
ran_at c (s ∷ left) = record {
  job = record c.job { packet = packet_after s c.job c.job.packet };
  tag = tag_after s c.job c.job.packet c.tag;
  reason = c.reason;
  left = left;
  out = c.out;
  lengths = c.lengths;
}

abbrev pub ran : CourseState → CourseState
ran c = ran_at c c.left

-- ---- where a course leads

abbrev pub status_of : Option Reason → Status
status_of None = status.Ok
status_of (Some reason) = status.InvalidArgs reason

-- the result when the steps left are done
abbrev pub led_to : Option Reason → List Step → Job → List ℕ → Done
led_to reason [] j tag = record { status = status_of reason; packet = j.packet; tag = tag }
led_to reason (s ∷ left) j tag =
    led_to reason left (record j { packet = packet_after s j j.packet }) (tag_after s j j.packet tag)

-- the result that a course owes
unfoldable pub owed : CourseState → Done
owed c = led_to c.reason c.left c.job c.tag
