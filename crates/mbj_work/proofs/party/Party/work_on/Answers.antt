use Rattle.mbj_front.specs.Seats.{view_of}
use Rattle.mbj_work.proofs.HandTurns.{gives_then}
use Rattle.mbj_work.proofs.Keeping.{keeps_on}
use Rattle.mbj_work.proofs.party.Party.work_on.Goals as goal

pub returns-clause-hand : goal.returns-clause-hand
returns-clause-hand g c =
    gives_then c.claim_ready.result (view_of c.args.self.now.seat).hand (view_of c.make_room.new.self.seat).hand
    (view_of c.claim_ready.new.self.seat).hand c.make_room.ensures.hand c.claim_ready.ensures.hand

pub returns-clause-due : goal.returns-clause-due
returns-clause-due g c =
    keeps_on (view_of c.args.self.now.seat) (view_of c.make_room.new.self.seat) (view_of c.claim_ready.new.self.seat)
    c.make_room.ensures.due c.claim_ready.ensures.due
