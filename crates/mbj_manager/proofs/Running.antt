-- What a run of a lane queue keeps: what holds of the machine, and how much is ahead of it.
use Rattle.std.proofs.Common.{◌≡◌, ◌≢◌, ℕ, ◌+◌, ◌*◌, ◌%◌, ◌≤◌, ◌<◌, List, length, refl, ap, sym, ◌∙◌, arith}
use Rattle.std.specs.Prelude.{All}
use Rattle.std.proofs.Math.Nat.{mod-add-mod}
use Rattle.std.proofs.lemmas.Nat.{mul-mod_second}
use Rattle.std.proofs.lemmas.List.{length-append}
use Rattle.mbj_types.specs.declared.kind.Kind.{Kind}
use Rattle.mbj_types.specs.Kinds.{lanes_of}
use Rattle.mbj_manager.specs.Machine.Queues.{WaitingJob, Queue, Machine, count_end, queue_for, least, after_run, run_within, shortened, with_run}
use Rattle.mbj_manager.specs.declared.lane.Cause.{Cause}
use Rattle.mbj_manager.specs.declared.lane.Cause.TheVariants as cause
use Rattle.mbj_manager.specs.Machine.Course.{stages_left}
use Rattle.mbj_manager.specs.Machine.Between.{HasRounds}
use Rattle.mbj_manager.specs.Inside.Standing.{IsLane, IsInCourse, Stands, left_at}
use Rattle.mbj_manager.proofs.Lanes.{each-lane, with_waiting}
use Rattle.mbj_manager.proofs.Leaving.{leave-or-stay, some-leave, stayers-rest}
use Rattle.mbj_manager.proofs.StagesLeft.{fewer-stages, rounds-done}
use Rattle.mbj_manager.proofs.Standing.{gone, gone-most, ran-standing, stayed}
use Rattle.mbj_manager.specs.Inside.Steps.{steps_ahead}

-- somebody waits in the lane queue of the kind k, which may be full
pub record IsFilled (k : Kind) (l : Queue) : Type 0 where
  pub some : 0 < length l.waiting
  pub room : length l.waiting ≤ lanes_of k
  pub rests : All (λ w. 1 ≤ w.rest) l.waiting
  pub blocks : l.blocks ≡ (lanes_of k * l.rounds) % count_end

-- the lane queue of the kind k may run; else the machine is as it is after each step
pub record IsReady (k : Kind) (m : Machine) : Type 0 where
  pub others : (j : Kind) → j ≢ k → IsLane j (queue_for j m)
  pub lane : IsFilled k (queue_for k m)
  pub stages : (n : ℕ) → All HasRounds (left_at n m.left)
  pub stands : (n : ℕ) → Stands m n

-- after is the machine m after a run
pub record IsRun (after m : Machine) : Type 0 where
  pub within : IsInCourse after
  pub fewer : stages_left after.left < stages_left m.left
  pub entry_view : steps_ahead after ≤ steps_ahead m

-- fewer stay in the lane queue than it has lanes
few-stay : (k : Kind) (m : Machine) → IsReady k m → length (stayed k m) < lanes_of k
few-stay k m ready = omega (arith, leave-or-stay (queue_for k m).waiting, some-leave (queue_for k m).waiting ready.lane.some, ready.lane.room)

-- a run keeps what holds of the machine, whatever it counts
ran-keeps : (k : Kind) (after : List WaitingJob → Queue) (m : Machine) → ((ws : List WaitingJob) → (after ws).waiting ≡ ws) → IsReady k m
    → IsLane k (after (stayed k m)) → IsRun (after_run k after m) m
ran-keeps k after m waiting ready lane =
    let some = some-leave (queue_for k m).waiting ready.lane.some in
    let fewer = fewer-stages (gone k m) m.left (λ n. gone-most k m n (ready.stands n)) in
    record {
      within = record {
        lanes = each-lane IsLane k (after (stayed k m)) m.lanes lane ready.others;
        stages = rounds-done (gone k m) m.left ready.stages;
        stands = λ n. ran-standing k after m n waiting (ready.stands n);
      };
      fewer = omega arith;
      entry_view = omega (arith, length-append m.agenda (gone k m));
    }

-- a run within a flush
pub idle-keeps : (k : Kind) (m : Machine) → IsReady k m → IsRun (run_within cause.Flush k m) m
idle-keeps k m ready =
    let counted : Machine = record m { flush_runs = (m.flush_runs + 1) % count_end } in
    let again : IsReady k counted
    = record { others = ready.others; lane = ready.lane; stages = ready.stages; stands = ready.stands } in
    let run = ran-keeps k (with_waiting (queue_for k m)) counted (λ ws. refl) again
    (record { few = few-stay k m ready; rests = stayers-rest (shortened (queue_for k m).waiting); blocks = ready.lane.blocks }) in
    record { within = run.within; fewer = run.fewer; entry_view = run.entry_view }

-- this many rounds more of a full lane queue
counted-blocks : (lanes rounds more end : ℕ) → ((lanes * rounds) % end + more * lanes) % end ≡ (lanes * ((rounds + more) % end)) % end
counted-blocks lanes rounds more end =
    let sum : lanes * rounds + more * lanes ≡ lanes * (rounds + more) = omega arith in
    mod-add-mod (lanes * rounds) end (more * lanes) ∙ ap (λ n. n % end) sum ∙ sym (mul-mod_second lanes (rounds + more) end)

-- a run of a full lane queue within a submit
full-keeps : (k : Kind) (m : Machine) → IsReady k m → length (queue_for k m).waiting ≡ lanes_of k → IsRun (run_within cause.Submit k m) m
full-keeps k m ready full =
    let l = queue_for k m in
    ran-keeps k (with_run l) m (λ ws. refl) ready (record {
      few = few-stay k m ready;
      rests = stayers-rest (shortened (queue_for k m).waiting);
      blocks = ap (λ n. (l.blocks + least l.waiting * n) % count_end) full
          ∙ ap (λ b. (b + least l.waiting * lanes_of k) % count_end) ready.lane.blocks
          ∙ counted-blocks (lanes_of k) l.rounds (least l.waiting) count_end;
    })

-- a run of a full lane queue, within either call
pub run-keeps : (at : Cause) (k : Kind) (m : Machine) → IsReady k m → length (queue_for k m).waiting ≡ lanes_of k
    → IsRun (run_within at k m) m
run-keeps cause.Submit k m ready full = full-keeps k m ready full
run-keeps cause.Flush k m ready full = idle-keeps k m ready
