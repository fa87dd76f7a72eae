-- The events of the front that a replay tells of.
use Rattle.std.specs.Prelude.{◌≡◌, ◌+◌, ⊤, ℕ, List, All, flat_map, slice_get, Option, None, Some, option_map, option_to_list}
use Rattle.std.specs.List.{AllZip}
use Rattle.mbj_types.specs.Result.{result_of}
use Rattle.mbj_types.specs.declared.job.Job.{Job}
use Rattle.mbj_types.specs.declared.done.Done.{Done}
use Rattle.mbj_core.specs.Events.{Event, post, claim, finish, collect, Answer, carried_out, returned, claimed, collected, nothing}
use Rattle.mbj_core.specs.Parties.{FrontState, new_front}
use Rattle.mbj_core.specs.Runs.{Run}
use Rattle.mbj_core.specs.Stands.{StandsFor}
use Rattle.mbj_text.specs.declared.command.Cmd.{Cmd}
use Rattle.mbj_replay.specs.Replay.{IsFor, replayed, new_replay, replay_lines}
use Rattle.mbj_replay.specs.declared.line.ReplayLine.{ReplayLine}
use Rattle.mbj_replay.specs.declared.line.ReplayLine.TheVariants as line

-- an event and its answer
abbrev pub Answered : Type 0
Answered = Event Job Done × Answer Job Done

-- the job n of the file has this result
abbrev pub ResultIs : List Job → ℕ → Done → Type 0
ResultIs jobs n d = option_map result_of (slice_get jobs n) ≡ Some d

-- A line tells of an event by the party that the line names, about the job that it names; worker w is the party submitters + w.
-- Or it tells of none: nothing happens if a submitter has no job to post, and if a worker has a full hand, or has no job
-- to claim or to finish.
abbrev pub Tells : List Job → ℕ → ReplayLine → Option Answered → Type 0
Tells jobs submitters (line.Post s n) (Some (post t job, carried_out)) = (t ≡ s) × (slice_get jobs n ≡ Some job)
Tells jobs submitters (line.PostFull s) (Some (post t job, returned back)) = t ≡ s
Tells jobs submitters (line.PostEnd s) None = ⊤
Tells jobs submitters (line.Claim w (Some n)) (Some (claim p cell, claimed job)) = (p ≡ submitters + w) × (slice_get jobs n ≡ Some job)
Tells jobs submitters (line.Claim w None) None = ⊤
Tells jobs submitters (line.ClaimFull w) None = ⊤
Tells jobs submitters (line.Finish w (Some n)) (Some (finish p cell d, carried_out)) = (p ≡ submitters + w) × ResultIs jobs n d
Tells jobs submitters (line.Finish w None) None = ⊤
Tells jobs submitters (line.Collect s n d) (Some (collect t, collected e)) = (t ≡ s) × (e ≡ d) × ResultIs jobs n d
Tells jobs submitters (line.CollectNone s) (Some (collect t, nothing)) = t ≡ s
Tells jobs submitters l e = ⊥

-- The events that the lines of each replay of commands for this many submitters and workers tell of, one after another, lead
-- from the new front to one that the replay's core stands for after the commands.
abbrev pub ReplaysAreOfEvents : Type 0
ReplaysAreOfEvents =
    (jobs : List Job) (commands : List Cmd) (submitters workers : ℕ) → All (IsFor submitters workers) commands
    → (events : List (Option Answered)) × (f : FrontState Job Done)
    × AllZip (Tells jobs submitters) (replay_lines jobs commands submitters workers) events
    × Run result_of submitters workers new_front (flat_map option_to_list events) f
    × StandsFor (replayed jobs commands (new_replay submitters workers)).1.core f
