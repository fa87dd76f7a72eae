-- What was told and the lines of the groups that are left are those of all groups.
use Rattle.std.proofs.Common.{◌≡◌, ◌++◌, [], List, length}
use Rattle.std.specs.Vec.Iter.{into_iter_items}
use Rattle.mbj_types.specs.declared.job.Job.{Job}
use Rattle.mbj_burst.specs.Burst.{groups_told}
use Rattle.mbj_burst.specs.Inside.State.{HasResults, HasRoom, state_of}
use Rattle.mbj_burst.proofs.BurstLines.{IsLeft}
use Rattle.mbj_burst.proofs.burster.Burster.submit_all.Given as goal

abbrev pub invariant-groups : goal.invariant-groups
invariant-groups l = record {
  left : IsLeft l.left (λ k. groups_told l.size k (into_iter_items l.jobs)) l.self.lines.items (state_of l.self)
      (l.initial.self.lines.items ++ (groups_told l.size (length l.fn.jobs.items) l.fn.jobs.items (state_of l.initial.self)).0)
      (groups_told l.size (length l.fn.jobs.items) l.fn.jobs.items (state_of l.initial.self)).1;
  count : l.left ≡ length (into_iter_items l.jobs);
  results : (done : List Job) × HasResults done (state_of l.self) × (done ++ into_iter_items l.jobs ≡ l.fn.jobs.items);
  closed : l.self.manager.opened ≡ [];
  room : HasRoom l.left l.self;
}

abbrev pub decreases-groups : goal.decreases-groups
decreases-groups l = l.left
