-- The seats that are left are those of parties that have done nothing.
use Rattle.std.proofs.Common.{ℕ, length}
use Rattle.mbj_work.specs.Inside.Runs.{AreSeatsFrom}
use Rattle.mbj_front_tests.proofs.player.players_of.Given as goal

abbrev pub invariant-loop-seat : goal.invariant-loop-seat
invariant-loop-seat l = (n : ℕ) × AreSeatsFrom l.front n l.seats.items

abbrev pub decreases-loop-seat : goal.decreases-loop-seat
decreases-loop-seat l = length l.seats.items
