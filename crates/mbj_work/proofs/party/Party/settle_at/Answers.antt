use Rattle.std.proofs.Common.{◌∙◌}
use Rattle.mbj_front.specs.Seats.{view_of}
use Rattle.mbj_work.proofs.Hands.{first_of}
use Rattle.mbj_work.proofs.HandTurns.{finishes_hand, gives_none}
use Rattle.mbj_work.proofs.Keeping.{keeps_all, keeps_finishing}
use Rattle.mbj_work.proofs.party.Party.settle_at.Goals as goal

pub finish_first-requires-clause-first : goal.finish_first-requires-clause-first
finish_first-requires-clause-first g c = first_of (view_of c.args.self.now.seat).hand c.in-Some.done c.flushed.new.manager.owed
    (c.in-Some.ensures.order ∙ c.args.self.now.holds.owed_is)

pub returns-clause-due : goal.returns-clause-due
returns-clause-due g c = let left = c.finish_first.ensures.part in
    keeps_finishing (view_of c.args.self.now.seat) (view_of c.finish_first.new.seat) left.more c.args.self.now.holds.rest left.part

pub returns-then-is_empty-clause-due : goal.returns-then-is_empty-clause-due
returns-then-is_empty-clause-due g c = keeps_all (view_of c.args.self.now.seat) c.args.self.now.holds.rest

pub returns-clause-hand : goal.returns-clause-hand
returns-clause-hand g c = let left = c.finish_first.ensures.part in
    finishes_hand (view_of c.args.self.now.seat) (view_of c.finish_first.new.seat) left.cell c.in-Some.done left.more left.first left.part

pub returns-then-is_empty-clause-hand : goal.returns-then-is_empty-clause-hand
returns-then-is_empty-clause-hand g c = gives_none (view_of c.args.self.now.seat).hand
