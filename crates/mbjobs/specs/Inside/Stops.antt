-- Why an input gave nothing.
use Rattle.std.specs.Prelude.{ℕ, List}
use Rattle.mbj_io.specs.Streams.{Stream, FailsOnce}
use Rattle.mbjobs.specs.Reading.{ReadsBytes, ReadsTooMuch}
use Rattle.mbjobs.specs.declared.cause.Cause.{Cause}
use Rattle.mbjobs.specs.declared.cause.Cause.TheVariants as cause

-- why the input gave nothing, where these relations say which line is bad, at which field, and which is over the limit
abbrev pub StopsReading : (List ℕ → ℕ → ℕ → Type 0) → (List ℕ → ℕ → Type 0) → Cause → Stream → Type 0
StopsReading IsBad IsOver cause.Read input = FailsOnce input
StopsReading IsBad IsOver cause.Write input = ⊥
StopsReading IsBad IsOver (cause.Line line field) input = ReadsBytes input (λ bytes. IsBad bytes line field)
StopsReading IsBad IsOver cause.Bytes input = ReadsTooMuch input.before input.after
StopsReading IsBad IsOver (cause.Jobs line) input = ReadsBytes input (λ bytes. IsOver bytes line)
StopsReading IsBad IsOver cause.Memory input = Unit {0}
