-- The lane machine: which jobs wait for lanes, in which order, and what one run takes off them. It moves numbers alone.
use Rattle.std.specs.Prelude.{ℕ, ◌+◌, ◌*◌, ◌-◌, ◌%◌, ◌^◌, ◌==◌, zero, suc, List, [], ◌∷◌, ◌++◌, map, drop, filter, length, not, if◌then◌else◌}
use Rattle.mbj_lane.specs.Rounds.{least as least_of}
use Rattle.mbj_types.specs.declared.kind.Kind.{Kind}
use Rattle.mbj_types.specs.Kinds.{index_of}
use Rattle.mbj_manager.specs.Machine.Stages.{Pending}
use Rattle.mbj_manager.specs.declared.lane.Cause.{Cause}
use Rattle.mbj_manager.specs.declared.lane.Cause.TheVariants as cause

-- a job that waits in a lane queue: its number, and its rest, which is how many rounds are left of its stage
pub record WaitingJob : Type 0 where
  pub number : ℕ
  pub rest : ℕ

-- the lane queue of a kind, and what its full runs came to: how many rounds they took, and how many blocks went through them
pub record Queue : Type 0 where
  pub waiting : List WaitingJob
  pub rounds : ℕ
  pub blocks : ℕ

-- The jobs that are submitted and not given back have the numbers from 0 on, in the order of submission.
pub record Machine : Type 0 where
  -- job by job the stages that are left. That of a waiting job stays until its rounds are done. A job with none left is
  -- finished
  pub left : List (List Pending)
  -- the lanes of each kind
  pub lanes : Kind → Queue
  -- the jobs that stand between two stages
  pub agenda : List ℕ
  -- how many runs there were within a flush
  pub flush_runs : ℕ

-- counts are kept modulo this
abbrev pub count_end : ℕ
count_end = 2 ^ 64

-- ---- changes of one place

-- the list with f of the item at n in its place
abbrev pub changed : {A : Type 0} → (A → A) → ℕ → List A → List A
changed f n [] = []
changed f zero (x ∷ xs) = f x ∷ xs
changed f (suc n) (x ∷ xs) = x ∷ changed f n xs

-- ---- the lanes by their kinds

-- what is by kinds, with x for the kind k
abbrev pub put : {A : Type 0} → Kind → A → (Kind → A) → Kind → A
put k x xs j = if index_of j == index_of k then x else xs j

-- the lanes with l for those of a kind
abbrev pub with_queue : Kind → Queue → (Kind → Queue) → Kind → Queue
with_queue k l lanes = put k l lanes

-- the lanes of a kind in which no job waits, and in which nothing ran
abbrev pub idle_queue : Queue
idle_queue = record { waiting = []; rounds = 0; blocks = 0 }

abbrev pub queue_for : Kind → Machine → Queue
queue_for k m = m.lanes k

-- ---- a run

abbrev pub rest_of : WaitingJob → ℕ
rest_of w = w.rest

-- the least rest in a lane queue
abbrev pub least : List WaitingJob → ℕ
least ws = least_of rest_of ws

-- a lane queue once it ran by its least rest, those at rest 0 still in it
abbrev pub shortened : List WaitingJob → List WaitingJob
shortened ws = map (λ (w : WaitingJob). record w { rest = w.rest - least ws }) ws

-- the numbers of those whose rounds are done, in their order; and the others, in theirs
abbrev pub leavers : List WaitingJob → List ℕ
leavers ws = map (λ w. w.number) (filter (λ w. w.rest == 0) ws)

abbrev pub stayers : List WaitingJob → List WaitingJob
stayers ws = filter (λ w. not (w.rest == 0)) ws

-- the stages left once the first of each of these jobs is done
abbrev pub stage_done : List ℕ → List (List Pending) → List (List Pending)
stage_done [] left = left
stage_done (n ∷ ns) left = stage_done ns (changed (drop 1) n left)

-- the lane queue of the kind k runs by its least rest: those whose rounds are done leave it in their order, and join the agenda's
-- end
abbrev pub after_run : Kind → (List WaitingJob → Queue) → Machine → Machine
after_run k after m = record {
  left = stage_done (leavers (shortened (queue_for k m).waiting)) m.left;
  lanes = with_queue k (after (stayers (shortened (queue_for k m).waiting))) m.lanes;
  agenda = m.agenda ++ leavers (shortened (queue_for k m).waiting);
  flush_runs = m.flush_runs;
}

-- a run in the counts of its kind: all lanes are in use
abbrev pub with_run : Queue → List WaitingJob → Queue
with_run l ws = record {
  waiting = ws;
  rounds = (l.rounds + least l.waiting) % count_end;
  blocks = (l.blocks + least l.waiting * length l.waiting) % count_end;
}

-- a run within a submit, which is of a full lane queue and counts for its kind; and one within a flush, of the lane queue of the
-- earliest job or of one that fills then
abbrev pub run_within : Cause → Kind → Machine → Machine
run_within cause.Submit k m = after_run k (with_run (queue_for k m)) m
run_within cause.Flush k m = after_run k (λ ws. record (queue_for k m) { waiting = ws }) (record m { flush_runs = (m.flush_runs + 1) % count_end })
