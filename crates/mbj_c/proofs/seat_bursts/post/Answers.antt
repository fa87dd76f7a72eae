-- Each job of a burst is posted behind those that are.
use Rattle.std.proofs.Common.{arith}
use Rattle.std.proofs.lemmas.Option.{slice_get-get_or}
use Rattle.mbj_c.specs.SeatBursts.{post_behind}
use Rattle.mbj_c.proofs.Bursting.{none-taken, taken-next}
use Rattle.mbj_c.proofs.seat_bursts.post.Goals as goal

pub posting-init : goal.posting-init
posting-init c = record {
  are = none-taken post_behind c.args.jobs.now c.args.refusals.now c.args.handle.now.seat;
  few = omega arith;
}

pub posting-preserved : goal.posting-preserved
posting-preserved c = record {
  are = taken-next post_behind c.posting.place c.args.jobs.now c.args.refusals.now c.posting.refusals c.args.handle.now.seat c.posting.posted
      c.post_next.new.posted c.posting.handle.seat c.post_next.new.handle.seat _ c.post_next.new.refusal c.posting.invariant.are
      (slice_get-get_or c.args.jobs.now c.posting.place _ (omega (arith, c.posting-test.true, c.min-place-end.ensures)))
      (omega (arith, c.posting-test.true, c.min-place-end.ensures, c.posting.auto.refusals))
      c.post_next.ensures.answer c.post_next.ensures.state;
  few = omega (arith, c.post_next.ensures.few, c.posting.invariant.few);
}
