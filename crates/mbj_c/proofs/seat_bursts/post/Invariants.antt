-- The first jobs are posted or refused.
use Rattle.std.proofs.Common.{◌≤◌}
use Rattle.mbj_c.specs.SeatBursts.{post_behind}
use Rattle.mbj_c.proofs.Bursting.{AreTaken}
use Rattle.mbj_c.proofs.seat_bursts.post.Given as goal

abbrev pub invariant-posting : goal.invariant-posting
invariant-posting l = record {
  are : AreTaken post_behind l.place l.jobs l.fn.refusals l.refusals l.fn.handle.seat l.posted l.handle.seat;
  few : l.posted ≤ l.place;
}
