-- What holds of the lane machine after each step of a course.
use Rattle.std.specs.Prelude.{◌≡◌, ℕ, ◌*◌, ◌%◌, ◌<◌, ◌≤◌, ◌==◌, ◌⊎◌, List, [], length, count_by, slice_index_or, All}
use Rattle.mbj_types.specs.declared.kind.Kind.{Kind}
use Rattle.mbj_types.specs.Kinds.{lanes_of}
use Rattle.mbj_manager.specs.Machine.Stages.{Pending}
use Rattle.mbj_manager.specs.Machine.Queues.{Queue, Machine, count_end, queue_for}
use Rattle.mbj_manager.specs.Machine.Between.{HasRounds, IsPlaced}

-- how often n stands in a list of numbers
abbrev pub times : ℕ → List ℕ → ℕ
times n ns = count_by (λ k. k == n) ns

-- the stages that are left of the job n
abbrev pub left_at : ℕ → List (List Pending) → List Pending
left_at n left = slice_index_or left n []

-- the job n stands in the agenda and in no lane queue, or it doesn't stand in the agenda and is placed by the stages left of it
abbrev pub Stands : Machine → ℕ → Type 0
Stands m n = ((times n m.agenda ≡ 1) × IsPlaced m n []) ⊎ ((times n m.agenda ≡ 0) × IsPlaced m n (left_at n m.left))

-- what holds of the lanes of a kind after each step
pub record IsLane (k : Kind) (l : Queue) : Type 0 where
  pub few : length l.waiting < lanes_of k
  pub rests : All (λ w. 1 ≤ w.rest) l.waiting
  pub blocks : l.blocks ≡ (lanes_of k * l.rounds) % count_end

-- what holds of the machine after each step of a course
pub record IsInCourse (m : Machine) : Type 0 where
  pub lanes : (k : Kind) → IsLane k (queue_for k m)
  pub stages : (n : ℕ) → All HasRounds (left_at n m.left)
  pub stands : (n : ℕ) → Stands m n
