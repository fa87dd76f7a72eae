use Rattle.std.proofs.Common.{[], ◌∷◌, ◌++◌, Some, map, sym, ap, ◌∙◌, append_assoc}
use Rattle.std.specs.Vec.Iter.{into_iter_items}
use Rattle.mbj_types.specs.declared.job.Job.{Job}
use Rattle.mbj_replay.specs.Inside.State.{with_copy}
use Rattle.mbj_replay.proofs.replayer.with_copies.Goals as goal

pub loop-job-preserved : goal.loop-job-preserved
loop-job-preserved c =
    let was = c.loop-job.invariant in let unposted = c.loop-job.unposted.items in let left = into_iter_items c.next.new.self in record {
      next = tt;
      finite = tt;
      jobs = ap (λ l. l ++ map with_copy left)
          (c.in_ok-push.ensures.items ∙ ap (λ (copy : Job). unposted ++ Some (record { job = c.in-Some.job; copy = copy }) ∷ []) c.in_ok-copy.ensures)
          ∙ append_assoc unposted (with_copy c.in-Some.job ∷ []) (map with_copy left)
          ∙ ap (λ l. unposted ++ map with_copy l) (sym c.in-Some.ensures.steps.0) ∙ was.jobs;
    }
