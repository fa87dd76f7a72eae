-- The first cell is that of the first pair of the hand.
use Rattle.std.proofs.Common.{◌∙◌}
use Rattle.mbj_front.specs.Seats.{view_of}
use Rattle.mbj_work.specs.declared.party.TheConstants.{HAND_ROOM}
use Rattle.mbj_work.proofs.Hands.{popped_first, popped_some, popped_rest}
use Rattle.mbj_work.proofs.claiming.finish_first.Goals as goal

pub unreachable-requires : goal.unreachable-requires
unreachable-requires g c =
    popped_some (view_of c.args.seat.now).hand c.args.returned HAND_ROOM c.args.cells.now c.requires.first c.requires.cells c.in_default.ensures.value

pub finish_returned-requires-clause-first : goal.finish_returned-requires-clause-first
finish_returned-requires-clause-first g c =
    popped_first (view_of c.args.seat.now).hand c.args.returned HAND_ROOM c.args.cells.now c.in-Some.cell c.requires.first c.requires.cells c.in-Some.ensures.value

pub returns-clause-cells : goal.returns-clause-cells
returns-clause-cells g c =
    c.in-Some.ensures.items
    ∙ popped_rest (view_of c.args.seat.now).hand (view_of c.finish_returned.new.seat).hand c.in-Some.cell c.args.returned HAND_ROOM c.args.cells.now c.requires.cells c.finish_returned.ensures.hand
