use Rattle.mbj_c.proofs.SeatLaws.{seats-collect-all, seats-collect-in-order}
use Rattle.mbj_c.proofs.laws.seats_collect_their_own_results_in_order.Goals as goal

pub returns-clause-order : goal.returns-clause-order
returns-clause-order c = seats-collect-in-order

pub returns-clause-all : goal.returns-clause-all
returns-clause-all c = seats-collect-all
