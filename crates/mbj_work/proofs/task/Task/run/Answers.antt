-- There is room for what one more job gives back, and its result comes next.
use Rattle.std.proofs.Common.{◌≤◌, ◌++◌, length, map, sym, subst, ◌∙◌}
use Rattle.std.specs.Vec.Iter.{into_iter_items}
use Rattle.mbj_types.specs.Result.{result_of}
use Rattle.mbj_work.proofs.Lists.{all-done, moves-on, room-for-all, room-for-one}
use Rattle.mbj_work.proofs.task.Task.run.Goals as goal

pub submit-requires : goal.submit-requires
submit-requires c = record {
  room = room-for-one c.loop-job.results.items c.loop-job.manager.owed (into_iter_items c.loop-job.job-iterator) (into_iter_items c.next.new.self)
      c.args.self.jobs.items c.in-Some.job _ c.loop-job.invariant.order c.in-Some.ensures.steps.0 c.loop-job.invariant.room;
}

pub loop-job-preserved : goal.loop-job-preserved
loop-job-preserved c = let was = c.loop-job.invariant in record {
  next = tt;
  finite = tt;
  order = moves-on result_of (c.loop-job.results.items ++ c.loop-job.manager.owed) (c.submit.new.results.items ++ c.submit.new.manager.owed)
      (into_iter_items c.loop-job.job-iterator) (into_iter_items c.next.new.self) c.in-Some.job _ was.order c.in-Some.ensures.steps.0 c.submit.ensures.order;
  room = subst (λ n. length c.args.self.jobs.items ≤ n) (sym c.submit.ensures.room) was.room;
}

pub flush_all-requires : goal.flush_all-requires
flush_all-requires c = record {
  room = room-for-all (c.loop-job.results.items ++ c.loop-job.manager.owed) (into_iter_items c.loop-job.job-iterator) c.args.self.jobs.items _
      c.loop-job.invariant.order c.loop-job.invariant.room;
}

pub returns : goal.returns
returns c = c.flush_all.ensures.results
    ∙ all-done result_of (c.loop-job.results.items ++ c.loop-job.manager.owed) (map result_of c.args.self.jobs.items) (into_iter_items c.loop-job.job-iterator) _
    c.loop-job.invariant.order c.in-None.ensures.steps.0 c.loop-job.job-iterator.rest.ok.0
