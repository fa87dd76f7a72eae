-- The lane queue of one kind with the courses and the agenda, and what joining and running make of them.
use Rattle.std.specs.Prelude.{◌≡◌, ℕ, ◌+◌, ◌*◌, ◌%◌, ◌<◌, ◌≤◌, ◌==◌, List, [], ◌∷◌, ◌++◌, length, map, All, if◌then◌else◌}
use Rattle.mbj_types.specs.declared.kind.Kind.{Kind}
use Rattle.mbj_lane.specs.Rounds.{least}
use Rattle.mbj_stage.specs.CourseState.{CourseState}
use Rattle.mbj_stage.specs.Handing.{IsNext, IsOut, handed_out}
use Rattle.mbj_manager.specs.Machine.Queues.{changed, count_end}
use Rattle.mbj_manager.specs.declared.lane.Cause.{Cause}
use Rattle.mbj_manager.specs.declared.lane.Cause.TheVariants as cause
use Rattle.mbj_manager.specs.Inside.Leaving.{At, Gives, IsAbsent, finishers, numbers, others, returned}
use Rattle.mbj_manager.specs.Inside.PlacedQueue.{EntryView, HasRest, PlacedQueue, PlacedEntry, brings_in, advanced_entry, numbered, pair_rest, rounds_in}

-- a lane queue after a run by its least rest, those with no round left still in it
abbrev pub advanced_all : List PlacedEntry → List PlacedEntry
advanced_all ws = map (advanced_entry (least (pair_rest rounds_in) ws)) ws

pub record QueueView : Type 0 where
  pub courses : List CourseState
  pub agenda : List ℕ
  pub queued : List PlacedEntry
  pub rounds : ℕ
  pub blocks : ℕ
  pub flush_runs : ℕ

abbrev pub queue_view : List CourseState → List ℕ → List PlacedEntry → ℕ → ℕ → ℕ → QueueView
queue_view cs agenda ws rounds blocks flush_runs =
    record { courses = cs; agenda = agenda; queued = ws; rounds = rounds; blocks = blocks; flush_runs = flush_runs }

-- a lane queue by places with the courses and the agenda, by the numbers that f makes of places
abbrev pub queue_view_at : (ℕ → ℕ) → List CourseState → List ℕ → PlacedQueue → ℕ → QueueView
queue_view_at f cs agenda l flush_runs = queue_view cs (map f agenda) (numbered f l.queued) l.rounds l.blocks flush_runs

-- once those left whose rounds are done
abbrev pub left_by : List PlacedEntry → QueueView → QueueView
left_by ws d = record d {
  courses = returned brings_in d.courses (finishers rounds_in ws);
  agenda = d.agenda ++ numbers (finishers rounds_in ws);
  queued = others rounds_in ws;
}

abbrev pub left_now : QueueView → QueueView
left_now d = left_by d.queued d

-- a run of the lane queue
abbrev pub ran_at : Cause → QueueView → QueueView
ran_at cause.Submit d = record (left_by (advanced_all d.queued) d) {
  rounds = (d.rounds + least (pair_rest rounds_in) d.queued) % count_end;
  blocks = (d.blocks + least (pair_rest rounds_in) d.queued * length d.queued) % count_end;
}
ran_at cause.Flush d = record (left_by (advanced_all d.queued) d) { flush_runs = (d.flush_runs + 1) % count_end }

-- the job n joins with its entry
abbrev pub joined_by : ℕ → EntryView → QueueView → QueueView
joined_by n a d = record d { courses = changed handed_out n d.courses; queued = d.queued ++ (n, a) ∷ [] }

abbrev pub ran_if_full : Cause → ℕ → QueueView → QueueView
ran_if_full at lanes d = if length d.queued == lanes then ran_at at d else d

-- the course of each job that is queued has its entry out, and no course has two
abbrev pub Listed : Kind → List CourseState → List PlacedEntry → Type 0
Listed k cs [] = Unit {0}
Listed k cs (w ∷ ws) = At (IsOut k w.1.brings) w.0 cs × IsAbsent w.0 ws × Listed k cs ws

-- the lane queue may run, and the agenda has room for those that leave
pub record IsReady (k : Kind) (d : QueueView) (room : ℕ) : Type 0 where
  pub some : 0 < length d.queued
  pub rests : All HasRest d.queued
  pub listed : Listed k d.courses d.queued
  pub room_left : length d.agenda + length d.queued ≤ room

-- the job n may join
pub record MayEnter (lanes : ℕ) (k : Kind) (n : ℕ) (d : QueueView) (room : ℕ) : Type 0 where
  pub next : At (IsNext k) n d.courses
  pub few : length d.queued < lanes
  pub rests : All HasRest d.queued
  pub listed : Listed k d.courses d.queued
  pub room_left : length d.agenda + length d.queued < room

-- what then becomes of it
pub record Enters (at : Cause) (lanes : ℕ) (k : Kind) (n : ℕ) (old new : QueueView) : Type 0 where
  pub entry : EntryView
  pub some : 1 ≤ entry.rounds
  pub gives : At (Gives k entry.rounds entry.brings) n old.courses
  pub is : new ≡ ran_if_full at lanes (joined_by n entry old)
