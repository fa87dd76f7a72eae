use Rattle.std.proofs.Common.{List, sym, subst}
use Rattle.mbj_types.specs.declared.job.Job.{Job}
use Rattle.mbj_types.specs.declared.done.Done.{Done}
use Rattle.mbj_front.specs.declared.seat.PartySeat.{PartySeat}
use Rattle.mbj_work.specs.Inside.Runs.{AreSeatsFrom}
use Rattle.mbj_work.proofs.Crews.{issued_seats}
use Rattle.mbj_front_tests.proofs.player.players_of.Goals as goal

pub loop-seat-init : goal.loop-seat-init
loop-seat-init c = (
  0,
  subst (λ (l : List (PartySeat Job Done)). AreSeatsFrom c.args.front.now 0 l) (sym c.from-seats.ensures.0)
      (issued_seats c.args.front.now c.args.seats.items c.requires),
)
