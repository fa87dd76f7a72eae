-- The key of a job's cipher: where it is used, where the course has its schedule, and where it is expanded for the job alone.
use Rattle.std.specs.Prelude.{Bool, true, false, not, ◌&&◌, Option, Some, None}
use Rattle.mbj_types.specs.Verdict.{is_null_cipher, verdict}
use Rattle.mbj_types.specs.declared.job.Cipher.{Cipher}
use Rattle.mbj_types.specs.declared.job.Cipher.TheVariants as cipher
use Rattle.mbj_types.specs.declared.job.Dir.{Dir}
use Rattle.mbj_types.specs.declared.job.Dir.TheVariants.{Enc, Dec}
use Rattle.mbj_types.specs.declared.job.Job.{Job}
use Rattle.mbj_types.specs.declared.reason.Reason.{Reason}

-- a job with this cipher that is refused for this reason or for none uses its key: it is accepted, and the cipher isn't Null
abbrev pub uses_key : Option Reason → Cipher → Bool
uses_key None c = not (is_null_cipher c)
uses_key (Some reason) c = false

-- an accepted job is done with the schedule of its key; that of CBC encryption is made in lanes, from the key
abbrev pub needs_schedule : Cipher → Dir → Bool
needs_schedule cipher.Null d = false
needs_schedule cipher.Cbc Enc = false
needs_schedule cipher.Cbc Dec = true
needs_schedule cipher.Ctr d = true
needs_schedule cipher.Gcm d = true
needs_schedule cipher.Ccm d = true

-- the course of a job that is refused for this reason or for none has the schedule
abbrev pub keeps_schedule : Option Reason → Cipher → Dir → Bool
keeps_schedule None c d = needs_schedule c d
keeps_schedule (Some reason) c d = false

-- the key of a job is expanded for the job alone: it is used, and its schedule isn't found among the entries of shared keys
abbrev pub counts_expansion : Bool → Job → Bool
counts_expansion found j = uses_key (verdict j) j.cipher && not found
