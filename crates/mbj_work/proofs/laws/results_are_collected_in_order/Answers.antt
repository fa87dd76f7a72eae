use Rattle.mbj_work.proofs.PartyCalls.{collects-in-order, drains-collect-all}
use Rattle.mbj_work.proofs.laws.results_are_collected_in_order.Goals as goal

pub returns-clause-order : goal.returns-clause-order
returns-clause-order c = collects-in-order

pub returns-clause-drained : goal.returns-clause-drained
returns-clause-drained c = drains-collect-all
