-- What was told and the lines of the bursts that are left are those of the whole group.
use Rattle.std.proofs.Common.{◌≡◌, ◌+◌, ◌-◌, ◌≤◌, ◌++◌, [], List, length, drop, take, vec_capacity}
use Rattle.std.specs.Vec.Iter.{into_iter_items}
use Rattle.mbj_types.specs.declared.job.Job.{Job}
use Rattle.mbj_burst.specs.Burst.{group_told}
use Rattle.mbj_burst.specs.Inside.State.{HasResults, state_of}
use Rattle.mbj_burst.proofs.BurstLines.{IsLeft}
use Rattle.mbj_burst.proofs.burster.Burster.hand_over.Given as goal

abbrev pub invariant-bursts : goal.invariant-bursts
invariant-bursts l = record {
  left : IsLeft l.rest (λ k. group_told l.size k (take l.rest (into_iter_items l.jobs))) l.self.lines.items (state_of l.self)
      (l.initial.self.lines.items ++ (group_told l.size l.size (take l.count (into_iter_items l.initial.jobs)) (state_of l.initial.self)).0)
      (group_told l.size l.size (take l.count (into_iter_items l.initial.jobs)) (state_of l.initial.self)).1;
  within : l.rest ≤ l.count;
  jobs : into_iter_items l.jobs ≡ drop (l.count - l.rest) (into_iter_items l.initial.jobs);
  results : (done : List Job) → HasResults done (state_of l.initial.self)
      → HasResults (done ++ take (l.count - l.rest) (into_iter_items l.initial.jobs)) (state_of l.self);
  closed : l.self.manager.opened ≡ [];
  total : length l.self.results.items + length l.self.manager.owed + l.rest
      ≡ length l.initial.self.results.items + length l.initial.self.manager.owed + l.count;
  room : vec_capacity l.self.results ≡ vec_capacity l.initial.self.results;
}

abbrev pub decreases-bursts : goal.decreases-bursts
decreases-bursts l = l.rest
