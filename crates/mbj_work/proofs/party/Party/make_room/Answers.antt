use Rattle.mbj_front.specs.Seats.{view_of}
use Rattle.mbj_work.proofs.HandTurns.{gives_none}
use Rattle.mbj_work.proofs.party.Party.make_room.Goals as goal

pub returns-then-hand-ne-HAND_ROOM-clause-hand : goal.returns-then-hand-ne-HAND_ROOM-clause-hand
returns-then-hand-ne-HAND_ROOM-clause-hand g c = gives_none (view_of c.args.self.now.seat).hand
