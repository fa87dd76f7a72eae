use Rattle.mbj_replay.proofs.NewReplayers.{begun, begun-state}
use Rattle.mbj_replay.proofs.replayer.Replayer.new.Goals as goal

pub returns-clause-state : goal.returns-clause-state
returns-clause-state c =
    begun-state _ _ _ _ c.args.submitters c.args.workers c.in_ok-core.ensures.empty
    c.in_ok-idle_workers.ensures.managers c.in_ok-numbers_below.ensures c.in_ok-unused_cells.ensures

pub returns-clause-playing : goal.returns-clause-playing
returns-clause-playing c =
    begun c.args.jobs.items (record {
      core = c.in_ok-core.core;
      workers = c.in_ok-idle_workers.field-0;
      unposted = c.in_ok-with_copies.field-0;
      nexts = c.in_ok-numbers_below.field-0;
      posted = c.in_ok-unused_cells.field-0;
    }) c.args.submitters c.args.workers c.in_ok-core.ensures.empty c.in_ok-core.ensures.stands
    c.in_ok-idle_workers.ensures.managers c.in_ok-idle_workers.ensures.hands c.in_ok-with_copies.ensures
    c.in_ok-numbers_below.ensures c.in_ok-unused_cells.ensures
