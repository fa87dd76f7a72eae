-- The answers of the calls, as answers of events.
use Rattle.std.specs.Prelude.{Option, None, Some, Result, Ok, Err}
use Rattle.std.specs.Borrow.{Bor}
use Rattle.mbj_types.specs.declared.job.Job.{Job}
use Rattle.mbj_types.specs.declared.done.Done.{Done}
use Rattle.mbj_types.specs.declared.refusal.PostFull.{PostFull}
use Rattle.mbj_core.specs.Events.{Answer, carried_out, returned, claimed, collected, nothing}

abbrev pub post_answer : Result (Unit {0}) PostFull → Answer Job Done
post_answer (Ok u) = carried_out
post_answer (Err full) = returned full.0

abbrev pub claim_answer : Option (Bor Job) → Answer Job Done
claim_answer None = nothing
claim_answer (Some job) = claimed job.now

abbrev pub collect_answer : Option Done → Answer Job Done
collect_answer None = nothing
collect_answer (Some d) = collected d
