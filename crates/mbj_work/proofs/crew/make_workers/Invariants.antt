use Rattle.std.proofs.Common.{ℕ, length, All}
use Rattle.mbj_work.specs.Inside.Runs.{AreSeatsFrom, MayServe}
use Rattle.mbj_work.proofs.crew.make_workers.Given as goal

abbrev pub invariant-loop-seat : goal.invariant-loop-seat
invariant-loop-seat l = record {
  seats : (n : ℕ) × AreSeatsFrom l.front n l.seats.items;
  ready : All (MayServe l.front) l.workers.items;
}

abbrev pub decreases-loop-seat : goal.decreases-loop-seat
decreases-loop-seat l = length l.seats.items
