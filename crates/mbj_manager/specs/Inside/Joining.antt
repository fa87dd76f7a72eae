-- A job that joins a lane queue.
use Rattle.std.specs.Prelude.{◌≡◌, ◌≤◌, ℕ, List}
use Rattle.mbj_types.specs.declared.kind.Kind.{Kind}
use Rattle.mbj_stage.specs.CourseState.{CourseState}
use Rattle.mbj_manager.specs.Inside.Leaving.{At, Gives}
use Rattle.mbj_manager.specs.Inside.PlacedQueue.{EntryView, PlacedQueue, with_queued}

-- the job at a place, which is the course n of these, joins with an entry that its packet went out in
pub record Joins (k : Kind) (place n : ℕ) (cs : List CourseState) (old new : PlacedQueue) : Type 0 where
  pub entry : EntryView
  pub some : 1 ≤ entry.rounds
  pub gives : At (Gives k entry.rounds entry.brings) n cs
  pub is : new ≡ with_queued place entry old
