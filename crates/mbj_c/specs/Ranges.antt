-- Which bytes of its packet a job gives back.
use Rattle.std.specs.Prelude.{ℕ, ◌+◌, ◌^◌, ◌-◌, List, [], ◌∷◌, ◌++◌, take, drop, nat_lt, Option, Some, None, if◌then◌else◌}
use Rattle.mbj_types.specs.declared.done.Done.{Done}
use Rattle.mbj_types.specs.declared.done.Status.{Status}
use Rattle.mbj_types.specs.declared.done.Status.TheVariants as status
use Rattle.mbj_types.specs.declared.job.Cipher.{Cipher}
use Rattle.mbj_types.specs.declared.job.Cipher.TheVariants as cipher
use Rattle.mbj_types.specs.declared.job.Job.{Job}
use Rattle.mbj_types.specs.declared.reason.Reason.{Reason}
use Rattle.mbj_types.specs.Verdict.{verdict}
use Rattle.mbj_c.specs.declared.range.CipherRange.{CipherRange}

abbrev pub no_range : CipherRange
no_range = record { off = 0; len = 0 }

-- the range that the cipher writes
abbrev pub written_range : Cipher → Job → CipherRange
written_range cipher.Null j = no_range
written_range cipher.Cbc j = record { off = j.cipher_off; len = j.cipher_len }
written_range cipher.Ctr j = record { off = j.cipher_off; len = j.cipher_len }
written_range cipher.Gcm j = record { off = j.cipher_off; len = j.cipher_len }
written_range cipher.Ccm j = record { off = j.cipher_off; len = j.cipher_len }

-- a job that is refused gives no byte back
abbrev pub range_by : Option Reason → Job → CipherRange
range_by None j = written_range j.cipher j
range_by (Some r) j = no_range

abbrev pub given_range : Job → CipherRange
given_range j = range_by (verdict j) j

-- that of a job by the status of its result and by what is asked for, which is the job without its packet
abbrev pub range_owed : Status → Job → CipherRange
range_owed status.Ok j = written_range j.cipher j
range_owed (status.InvalidArgs reason) j = no_range

abbrev pub ranges_owed : List Done → List Job → List CipherRange
ranges_owed (d ∷ ds) (j ∷ js) = range_owed d.status j ∷ ranges_owed ds js
ranges_owed ds js = []

-- the bytes of the packet p in a range
abbrev pub bytes_in : CipherRange → List ℕ → List ℕ
bytes_in r p = take r.len (drop r.off p)

-- the packet p with other bytes in the range
abbrev pub with_bytes : CipherRange → List ℕ → List ℕ → List ℕ
with_bytes r bytes p = take r.off p ++ bytes ++ drop (r.off + r.len) p

-- a number that 32 bits can't hold becomes the greatest one that they hold
abbrev pub narrowed : ℕ → ℕ
narrowed n = if nat_lt n (2 ^ 32) then n else 2 ^ 32 - 1
