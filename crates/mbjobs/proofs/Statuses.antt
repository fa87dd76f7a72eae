-- What the status of a command that didn't complete tells of its cause.
use Rattle.std.proofs.Common.{◌≡◌, ◌≤◌, ◌<◌, ap, ℕ, Result, Err, arith}
use Rattle.mbjobs.specs.Message.{status_for}
use Rattle.mbjobs.specs.Outcome.{BreaksOff, IsBadFor, Stands}
use Rattle.mbj_io.specs.Streams.{Fails, FailsOnce, Stream}
use Rattle.mbjobs.specs.Reading.{ReadsBytes}
use Rattle.mbjobs.specs.declared.cause.Cause.{Cause}
use Rattle.mbjobs.specs.declared.cause.Cause.TheVariants.{Read, Write, Line, Bytes, Jobs, Memory}
use Rattle.mbj_command.specs.declared.command.Command.{Command}

at_least_3 : (cause : Cause) → 3 ≤ status_for cause
at_least_3 Read = omega arith
at_least_3 Write = omega arith
at_least_3 (Line line field) = omega arith
at_least_3 Bytes = omega arith
at_least_3 (Jobs line) = omega arith
at_least_3 Memory = omega arith

at_most_7 : (cause : Cause) → status_for cause ≤ 7
at_most_7 Read = omega arith
at_most_7 Write = omega arith
at_most_7 (Line line field) = omega arith
at_most_7 Bytes = omega arith
at_most_7 (Jobs line) = omega arith
at_most_7 Memory = omega arith

-- no cause has a status below 3
pub never : (cause : Cause) (status n : ℕ) → status ≡ status_for cause → n < 3 → status ≡ n → ⊥
never cause status n is below here = omega (arith, is, below, here, at_least_3 cause)

pub known : (cause : Cause) (status : ℕ) → status ≡ status_for cause → (2 ≤ status) × (status ≤ 7)
known cause status is = (omega (arith, is, at_least_3 cause), omega (arith, is, at_most_7 cause))

pub read_is_3 : (cause : Cause) (failed : Result (Unit {0}) Cause) → failed ≡ Err cause → failed ≡ Err Read → status_for cause ≡ 3
read_is_3 cause failed is read =
    let here : cause ≡ Read = cc in
    ap (λ (k : Cause). status_for k) here

pub write_is_4 : (cause : Cause) → cause ≡ Write → status_for cause ≡ 4
write_is_4 cause is = ap (λ (k : Cause). status_for k) is

-- ---- what stands behind a status

pub status_3 : (c : Command) (cause : Cause) (input out : Stream) → Stands c cause input out → status_for cause ≡ 3 → FailsOnce input
status_3 c Read input out s is = s.1
status_3 c Write input out s is = absurd (omega (arith, is))
status_3 c (Line line field) input out s is = absurd (omega (arith, is))
status_3 c Bytes input out s is = absurd (omega (arith, is))
status_3 c (Jobs line) input out s is = absurd (omega (arith, is))
status_3 c Memory input out s is = absurd (omega (arith, is))

pub status_4 : (c : Command) (cause : Cause) (input out : Stream) → Stands c cause input out → status_for cause ≡ 4
    → Fails out × BreaksOff c input out
status_4 c Read input out s is = absurd (omega (arith, is))
status_4 c Write input out s is = s
status_4 c (Line line field) input out s is = absurd (omega (arith, is))
status_4 c Bytes input out s is = absurd (omega (arith, is))
status_4 c (Jobs line) input out s is = absurd (omega (arith, is))
status_4 c Memory input out s is = absurd (omega (arith, is))

pub status_5 : (c : Command) (cause : Cause) (input out : Stream) → Stands c cause input out → status_for cause ≡ 5
    → (line : ℕ) × (field : ℕ) × ReadsBytes input (λ bytes. IsBadFor c bytes line field)
status_5 c Read input out s is = absurd (omega (arith, is))
status_5 c Write input out s is = absurd (omega (arith, is))
status_5 c (Line line field) input out s is = (line, field, s)
status_5 c Bytes input out s is = absurd (omega (arith, is))
status_5 c (Jobs line) input out s is = absurd (omega (arith, is))
status_5 c Memory input out s is = absurd (omega (arith, is))
