-- The seats that are left are the next ones, and each worker so far may serve.
use Rattle.std.proofs.Common.{◌≡◌, ◌+◌, [], ap, sym, subst, All}
use Rattle.std.proofs.lemmas.List.Elements.{All-push}
use Rattle.mbj_work.specs.Inside.Runs.{AreSeatsFrom, MayServe}
use Rattle.mbj_work.proofs.Crews.{seat_first}
use Rattle.mbj_work.proofs.crew.make_workers.Goals as goal

pub loop-seat-preserved : goal.loop-seat-preserved
loop-seat-preserved c = record {
  seats = (
    c.loop-seat.invariant.seats.0 + 1,
    (subst (AreSeatsFrom c.args.front.now c.loop-seat.invariant.seats.0) c.in-Some.ensures.items c.loop-seat.invariant.seats.1).1,
  );
  ready = subst (All (MayServe c.args.front.now)) (sym c.in_ok-push.ensures.items)
      (All-push (MayServe c.args.front.now) _ _ c.loop-seat.invariant.ready c.new-worker.ensures);
}
