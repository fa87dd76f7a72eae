-- How ring, agenda and lane queues hold a manager's state.
use Rattle.std.specs.Prelude.{◌≡◌, ℕ, ◌+◌, ◌-◌, ◌<◌, ◌≤◌, ◌==◌, suc, List, [], ◌∷◌, length, map, sum_by, All, Option, Some, None, if◌then◌else◌}
use Rattle.mbj_types.specs.Kinds.{all_kinds, lanes_of}
use Rattle.mbj_types.specs.declared.kind.Kind.{Kind}
use Rattle.mbj_ring.specs.Ring.{RingState}
use Rattle.mbj_stage.specs.CourseState.{CourseState, owed, stage_of}
use Rattle.mbj_stage.specs.Handing.{End, taken_back}
use Rattle.mbj_stage.specs.declared.stage.Stage.{Stage}
use Rattle.mbj_stage.specs.declared.stage.Stage.TheVariants as stage
use Rattle.mbj_manager.specs.Machine.Stages.{pending}
use Rattle.mbj_manager.specs.Machine.Queues.{WaitingJob, Queue, Machine}
use Rattle.mbj_manager.specs.State.{ManagerState}
use Rattle.mbj_manager.specs.Cells.{Cell, IsOpen, job_in}
use Rattle.mbj_manager.specs.Inside.Courses.{AreCourses, asked, courses, ring_number}
use Rattle.mbj_manager.specs.Inside.Leaving.{At, IsAbsent}
use Rattle.mbj_manager.specs.Inside.QueueView.{Listed}
use Rattle.mbj_manager.specs.Inside.LaneQueues.{placed_in, total}
use Rattle.mbj_manager.specs.Inside.PlacedQueue.{PlacedQueue, PlacedEntry, numbered_queue}
use Rattle.mbj_manager.specs.declared.lane_queues.LaneQueues.{LaneQueues}
use Rattle.mbj_manager.specs.Inside.Standing.{IsInCourse}

-- ---- the machine

abbrev pub waiting : PlacedEntry → WaitingJob
waiting w = record { number = w.0; rest = w.1.rounds }

abbrev pub lane_seen : PlacedQueue → Queue
lane_seen l = record { waiting = map waiting l.queued; rounds = l.rounds; blocks = l.blocks }

abbrev pub machine_by : List CourseState → List ℕ → (Kind → PlacedQueue) → ℕ → Machine
machine_by cs agenda lines flush_runs =
    record { left = map pending cs; lanes = λ k. lane_seen (lines k); agenda = agenda; flush_runs = flush_runs }

-- ---- what is owed, and for which jobs

-- the end of the entry of the job n in a lane queue
abbrev pub found : ℕ → List PlacedEntry → Option End
found n [] = None
found n (w ∷ ws) = if n == w.0 then Some w.1.brings else found n ws

-- the course with its entry taken back as it ends, if it is found
abbrev pub back_by : CourseState → Option End → CourseState
back_by c None = c
back_by c (Some e) = taken_back e c

abbrev pub restored_by : Stage → ℕ → (Kind → ℕ → Option End) → CourseState → CourseState
restored_by stage.Now n find c = c
restored_by stage.Finished n find c = c
restored_by (stage.Lane k) n find c = back_by c (find k n)

abbrev pub restored_here : Option ℕ → CourseState → CourseState → CourseState
restored_here None c back = c
restored_here (Some n) c back = back

-- the course of the job n with all that is its own: while its packet is out, with its entry taken back
abbrev pub restored : ℕ → (Kind → ℕ → Option End) → CourseState → CourseState
restored n find c = restored_here c.out c (restored_by (stage_of c) n find c)

-- courses so, the first of which is of the job n
abbrev pub restored_from : ℕ → (Kind → ℕ → Option End) → List CourseState → List CourseState
restored_from n find [] = []
restored_from n find (c ∷ cs) = restored n find c ∷ restored_from (suc n) find cs

abbrev pub find_in : (Kind → PlacedQueue) → Kind → ℕ → Option End
find_in lines k n = found n (lines k).queued

-- ---- the state, in which no key is counted: the manager does that

abbrev pub lines_in : RingState Cell → LaneQueues → Kind → PlacedQueue
lines_in r ls k = numbered_queue (ring_number r) (placed_in k ls)

abbrev pub machine_in : RingState Cell → List ℕ → LaneQueues → Machine
machine_in r agenda ls = machine_by (courses r) (map (ring_number r) agenda) (lines_in r ls) ls.flush_runs

abbrev pub restored_in : RingState Cell → LaneQueues → List CourseState
restored_in r ls = restored_from 0 (find_in (lines_in r ls)) (courses r)

abbrev pub held : RingState Cell → List ℕ → LaneQueues → ManagerState
held r agenda ls = record {
  owed = map owed (restored_in r ls);
  jobs = map asked (restored_in r ls);
  opened = map job_in r.opened;
  machine = machine_in r agenda ls;
  expansions = 0;
}

abbrev pub IsHere : CourseState → Type 0
IsHere c = c.out ≡ None

-- lane queues, agenda and courses fit: who waits has its entry out, each other course has its packet, and who stands in the agenda
-- has a course
pub record IsTied (cs : List CourseState) (agenda : List ℕ) (lines : Kind → PlacedQueue) : Type 0 where
  pub listed : (k : Kind) → Listed k cs (lines k).queued
  pub here : (n : ℕ) → n < length cs → ((k : Kind) → IsAbsent n (lines k).queued) → At IsHere n cs
  pub below : All (λ n. n < length cs) agenda

-- how many jobs there are at most in agenda and lane queues: in each lane queue one fewer than it has lanes, and one that goes on
abbrev pub agenda_room : ℕ
agenda_room = sum_by (λ k. lanes_of k - 1) all_kinds + 1

-- what the fields keep
pub record IsHeld (r : RingState Cell) (agenda : List ℕ) (ls : LaneQueues) (capacity : ℕ) : Type 0 where
  pub ring : AreCourses r
  pub is_open : All IsOpen r.opened
  pub within : IsInCourse (machine_in r agenda ls)
  pub tied : IsTied (courses r) (map (ring_number r) agenda) (lines_in r ls)
  pub fits : length agenda + total ls ≤ agenda_room
  pub room : agenda_room ≤ capacity
