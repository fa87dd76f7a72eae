-- A flush gave something back, and the flushes that are left are one fewer.
use Rattle.std.proofs.Common.{length, arith}
use Rattle.mbj_burst.specs.Inside.State.{state_of}
use Rattle.mbj_burst.proofs.BurstLines.{flushed-some}
use Rattle.mbj_burst.proofs.burster.Burster.flush_all.Goals as goal

pub flushing-preserved : goal.flushing-preserved
flushing-preserved c =
    let i = c.flushing.invariant in
    let told = c.in_ok-flush.ensures in
    let old = c.flushing.self in
    let new = c.flush.new.self in
    record {
      left = flushed-some (length new.manager.owed) i.left.steps old.lines.items new.lines.items _ (state_of old) (state_of new) _
          (omega (arith, i.left.enough, told.left, c.if-branch-gt0.true)) (omega (arith, told.given, c.if-branch-gt0.true))
          told.lines told.state i.left.told i.left.state;
      results = λ jobs has. told.results jobs (i.results jobs has);
      room = omega (arith, i.room, told.given, told.left, told.room);
    }
