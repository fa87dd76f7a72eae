-- Each list has its task, and each task its results.
use Rattle.mbj_work.proofs.Lists.{results-of-tasks}
use Rattle.mbj_work.proofs.private.run_private.Goals as goal

pub returns : goal.returns
returns g c = results-of-tasks c.in_ok-tasks.tasks c.args.lists c.run_tasks.result c.in_ok-tasks.ensures c.run_tasks.ensures.len c.run_tasks.ensures.each
