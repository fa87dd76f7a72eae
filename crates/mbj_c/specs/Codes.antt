-- The numbers that are returned to C. Those of refusals stand behind the reasons for which a job is refused, which are 1 to 10.
use Rattle.std.specs.Prelude.{ℕ, Option, None, Some, Result, Ok, Err}
use Rattle.mbj_types.specs.Reasons.{number_of}
use Rattle.mbj_types.specs.declared.done.Status.{Status}
use Rattle.mbj_types.specs.declared.done.Status.TheVariants as status
use Rattle.mbj_c.specs.declared.refusal.Refusal.{Refusal}
use Rattle.mbj_c.specs.declared.refusal.Refusal.TheVariants.{TextLength, KeyLength, IvLength, TagLength, AadLength, NoState, HasKeys, NoKeys, TooManyKeys, WrongTag, Full, Word, Memory, NoManager, NoJob, NoRoom, HasManager, NoSeat, HasSeat, SeatCount, NotSubmitter}

abbrev pub refusal_code : Refusal → ℕ
refusal_code TextLength = 11
refusal_code KeyLength = 12
refusal_code IvLength = 13
refusal_code TagLength = 14
refusal_code AadLength = 15
refusal_code NoState = 16
refusal_code HasKeys = 17
refusal_code NoKeys = 18
refusal_code TooManyKeys = 19
refusal_code WrongTag = 20
refusal_code Full = 21
refusal_code Word = 22
refusal_code Memory = 23
refusal_code NoManager = 24
refusal_code NoJob = 25
refusal_code NoRoom = 26
refusal_code HasManager = 27
refusal_code NoSeat = 32
refusal_code HasSeat = 33
refusal_code SeatCount = 34
refusal_code NotSubmitter = 35

-- 0, or the code of the refusal
abbrev pub code_of : {A : Type 0} → Result A Refusal → ℕ
code_of (Ok x) = 0
code_of (Err r) = refusal_code r

-- the code where nothing speaks against a call, and where something does
abbrev pub code_by : Option Refusal → ℕ
code_by None = 0
code_by (Some r) = refusal_code r

-- 0 for a job that was done, 1 for one that was refused
abbrev pub status_code : Status → ℕ
status_code status.Ok = 0
status_code (status.InvalidArgs r) = 1

-- 0, or the number of the reason for which the job was refused
abbrev pub reason_code : Status → ℕ
reason_code status.Ok = 0
reason_code (status.InvalidArgs r) = number_of r
