-- How a command ends, as its source and its sinks show.
use Rattle.std.specs.Prelude.{◌≡◌, ◌⊎◌, ℕ, List, map}
use Rattle.std.specs.Io.KnownBytes.{Appends}
use Rattle.mbj_types.specs.declared.job.Job.{Job}
use Rattle.mbj_types.specs.Result.{result_of}
use Rattle.mbj_text.specs.Flow.{GainsPrefix, WritesAll}
use Rattle.mbj_text.specs.Line.{text}
use Rattle.mbj_text.specs.File.{Reads, Bad, Over}
use Rattle.mbj_text.specs.Replay.{ReadsReplay, BadReplay, OverReplay}
use Rattle.mbj_text.specs.declared.command.Cmd.{Cmd}
use Rattle.mbj_io.specs.Streams.{Fails, FailsOnce, IsUntouched, Stream}
use Rattle.mbjobs.specs.Reading.{ReadsBytes, ReadsTooMuch}
use Rattle.mbj_replay.specs.Replay.{replay_text}
use Rattle.mbj_trace.specs.Trace.{trace_text}
use Rattle.mbj_burst.specs.Burst.{burst_text}
use Rattle.mbj_gen.specs.Summary.{gen_text}
use Rattle.mbjobs.specs.declared.cause.Cause.{Cause}
use Rattle.mbjobs.specs.declared.cause.Cause.TheVariants as cause
use Rattle.mbj_command.specs.declared.command.Command.{Command}
use Rattle.mbj_command.specs.declared.command.Command.TheVariants.{Run, Trace, Burst, Gen, Replay}

-- ---- what a command reads and writes

-- what the input of a command that reads one asks for: it spells keys of sessions and jobs, or these and a script, and the output is
-- made of the jobs and the script; that of run is the text of the standards' results, a line for each job in order
abbrev pub AsksFor : Command → List ℕ → List ℕ → Type 0
AsksFor (Run s w) bytes output = (keys : List (List ℕ)) × (jobs : List Job) × Reads bytes keys jobs × (output ≡ text (map result_of jobs))
AsksFor Trace bytes output = (keys : List (List ℕ)) × (jobs : List Job) × Reads bytes keys jobs × (output ≡ trace_text jobs)
AsksFor (Burst n) bytes output = (keys : List (List ℕ)) × (jobs : List Job) × Reads bytes keys jobs × (output ≡ burst_text n jobs)
AsksFor (Gen n m s w) bytes output = ⊥
AsksFor (Replay s w) bytes output =
    (keys : List (List ℕ)) × (jobs : List Job) × (commands : List Cmd) × ReadsReplay s w bytes keys jobs commands
    × (output ≡ replay_text jobs commands s w)

-- the line is the first bad one of the command's input, at this field
abbrev pub IsBadFor : Command → List ℕ → ℕ → ℕ → Type 0
IsBadFor (Gen n m s w) bytes line field = ⊥
IsBadFor (Replay s w) bytes line field = BadReplay s w bytes line field
IsBadFor _ bytes line field = Bad bytes line field

-- the line is one job line more than the command's input may have
abbrev pub IsOverFor : Command → List ℕ → ℕ → Type 0
IsOverFor (Gen n m s w) bytes line = ⊥
IsOverFor (Replay s w) bytes line = OverReplay bytes line
IsOverFor _ bytes line = Over bytes line

-- whether the command reads an input
abbrev pub ReadsInput : Command → Type 0
ReadsInput (Gen n m s w) = ⊥
ReadsInput _ = Unit {0}

-- the input was read to its end and asks for an output, and that was written so; a command that reads no input leaves it
-- untouched
abbrev pub Does : Command → Stream → (List ℕ → Type 0) → Type 0
Does (Gen n m s w) input IsWritten = IsUntouched input × IsWritten (gen_text n m)
Does c input IsWritten = ReadsBytes input (λ bytes. (output : List ℕ) × AsksFor c bytes output × IsWritten output)

-- the command did all that it is to do, and out gained exactly its text, without a fault
abbrev pub Completes : Command → Stream → Stream → Type 0
Completes c input out = Does c input (WritesAll out)

-- out gained a prefix of the command's text
abbrev pub BreaksOff : Command → Stream → Stream → Type 0
BreaksOff c input out = Does c input (GainsPrefix out.before out.after)

-- ---- why a command doesn't complete

-- what stands behind each cause
abbrev pub Stands : Command → Cause → Stream → Stream → Type 0
Stands c cause.Read input out = ReadsInput c × FailsOnce input
Stands c cause.Write input out = Fails out × BreaksOff c input out
Stands c (cause.Line line field) input out = ReadsBytes input (λ bytes. IsBadFor c bytes line field)
Stands c cause.Bytes input out = ReadsInput c × ReadsTooMuch input.before input.after
Stands c (cause.Jobs line) input out = ReadsBytes input (λ bytes. IsOverFor c bytes line)
Stands c cause.Memory input out = Unit {0}

-- the sink gained the text, or, if its faults rose, a prefix of it
abbrev pub Gains : Stream → List ℕ → Type 0
Gains err text = Appends err.before err.after text ⊎ (Fails err × GainsPrefix err.before err.after text)
