-- The machine once its earliest job is given back: each job's number is one lower.
use Rattle.std.proofs.Common.{◌≡◌, ℕ, ◌-◌, ◌≤◌, ◌==◌, zero, suc, List, [], ◌∷◌, map, cond, refl, subst, arith}
use Rattle.std.specs.Prelude.{All}
use Rattle.std.proofs.Math.Dec.{eqb-suc-suc}
use Rattle.std.proofs.lemmas.List.{length-map}
use Rattle.std.proofs.lemmas.List.Elements.{All-map, All-tail}
use Rattle.std.proofs.lemmas.List.Sums.{sum_by-cons}
use Rattle.mbj_types.specs.declared.kind.Kind.{Kind}
use Rattle.mbj_manager.specs.Machine.Stages.{Pending}
use Rattle.mbj_manager.specs.Machine.Queues.{WaitingJob, Queue, Machine, queue_for}
use Rattle.mbj_manager.specs.State.{renumbered}
use Rattle.mbj_manager.specs.Machine.Between.{HasRounds, IsBetweenCalls, IsPlaced, times_in}
use Rattle.mbj_manager.specs.Inside.Standing.{IsLane, left_at}
use Rattle.mbj_manager.proofs.Standing.{same-placed}
use Rattle.mbj_manager.proofs.CourseEnds.{lanes-between}

-- a number above 0, less one, is n if it is n's successor
earlier-number : (i n : ℕ) → cond {A = ℕ} (i == 0) 1 0 ≡ 0 → cond {A = ℕ} (i - 1 == n) 1 0 ≡ cond {A = ℕ} (i == suc n) 1 0
earlier-number zero n later = cc
earlier-number (suc i) n later = let e : suc i - 1 ≡ i = omega arith in rw (e, eqb-suc-suc) refl

-- a waiting job once the first job left
abbrev pub earlier : WaitingJob → WaitingJob
earlier w = record { number = w.number - 1; rest = w.rest }

-- the machine once the first job left
abbrev pub without_earliest : List (List Pending) → Machine → Machine
without_earliest left m = record m { left = left; lanes = λ k. renumbered (queue_for k m) }

-- if the job 0 isn't in a lane queue, its jobs have the numbers that they had, less one
times-earlier : (n : ℕ) (ws : List WaitingJob) → times_in 0 ws ≡ 0 → times_in n (map earlier ws) ≡ times_in (suc n) ws
times-earlier n [] none = refl
times-earlier n (w ∷ ws) none =
    let first = sum_by-cons (λ w. cond (w.number == 0) 1 0) w ws in
    let same = earlier-number w.number n (omega arith) in
    let rest = times-earlier n ws (omega arith) in
    omega (arith, sum_by-cons (λ w. cond (w.number == n) 1 0) (earlier w) (map earlier ws), sum_by-cons (λ w. cond (w.number == suc n) 1 0) w ws)

-- lower numbers keep what holds of lanes
lane-back : (k : Kind) (l : Queue) → IsLane k l → IsLane k (renumbered l)
lane-back k l lane = record {
  few = (let same = length-map l.waiting earlier in let few = lane.few in omega arith);
  rests = All-map (λ w. 1 ≤ w.rest) earlier l.waiting lane.rests;
  blocks = lane.blocks;
}

-- a machine between two calls is one still once its earliest job, which is finished, is given back
pub back-between : (left : List (List Pending)) (m : Machine) → m.left ≡ [] ∷ left → IsBetweenCalls m
    → IsBetweenCalls (without_earliest left m)
back-between left m is between =
    let after = without_earliest left m in
    let lanes : (k : Kind) → IsLane k (queue_for k after) = λ k. lane-back k (queue_for k m) (lanes-between m between k) in
    let finished : IsPlaced m 0 [] = subst (λ left. IsPlaced m 0 (left_at 0 left)) is (between.placed 0) in
    record {
      agenda = between.agenda;
      few = λ k. (lanes k).few;
      rests = λ k. (lanes k).rests;
      placed = λ n. same-placed m after (suc n) n
          (λ k. times-earlier n (queue_for k m).waiting (finished k)) (left_at n left)
          (subst (λ left. IsPlaced m (suc n) (left_at (suc n) left)) is (between.placed (suc n)));
      stages = All-tail (All HasRounds) [] left (subst (All (All HasRounds)) is between.stages);
      blocks = λ k. (lanes k).blocks;
    }
