-- The lines that tell on standard error why a command didn't complete, and the statuses.
use Rattle.std.specs.Prelude.{ℕ, List, ◌++◌, codes, decimal}
use Rattle.mbjobs.specs.declared.cause.Cause.{Cause}
use Rattle.mbjobs.specs.declared.cause.Cause.TheVariants as cause

abbrev pub message_of : Cause → List ℕ
message_of cause.Read = codes "mbjobs: read failed\n"
message_of cause.Write = codes "mbjobs: write failed\n"
message_of (cause.Line line field) =
    codes "mbjobs: line " ++ (decimal line ++ (codes ": field " ++ (decimal field ++ codes "\n")))
message_of cause.Bytes = codes "mbjobs: input over 16777216 bytes\n"
message_of (cause.Jobs line) = codes "mbjobs: line " ++ (decimal line ++ codes ": over 65536 jobs\n")
message_of cause.Memory = codes "mbjobs: out of memory\n"

abbrev pub status_for : Cause → ℕ
status_for cause.Read = 3
status_for cause.Write = 4
status_for (cause.Line line field) = 5
status_for cause.Memory = 7
status_for cause.Bytes = 6
status_for (cause.Jobs line) = 6
