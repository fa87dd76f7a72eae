use Rattle.std.proofs.Common.{◌∙◌}
use Rattle.mbj_front.specs.Seats.{view_of}
use Rattle.mbj_work.proofs.Hands.{first_of}
use Rattle.mbj_work.proofs.party.Party.give_back.Goals as goal

pub finish_first-requires-clause-first : goal.finish_first-requires-clause-first
finish_first-requires-clause-first g c = first_of (view_of c.args.self.now.seat).hand c.in-Some.done c.completed.new.manager.owed
    (c.in-Some.ensures.order ∙ c.args.self.now.holds.owed_is)
