use Rattle.std.proofs.Common.{[], ◌∷◌, ◌++◌, length, length-append, map, ap, ◌∙◌, arith}
use Rattle.std.proofs.lemmas.List.{map-append}
use Rattle.std.specs.Vec.Iter.{into_iter_items}
use Rattle.mbj_work.proofs.Lists.{all-done, moves-on}
use Rattle.mbj_work.proofs.private.tasks_of.Goals as goal

pub loop-jobs-preserved : goal.loop-jobs-preserved
loop-jobs-preserved c =
    let was = c.loop-jobs.invariant in let steps = c.in-Some.ensures.steps.0 in let pushed = c.push_reserved.ensures in
    let tasks = c.loop-jobs.tasks.items in let task = c.in_ok-task.task in record {
      next = tt;
      finite = tt;
      order = moves-on (λ v. v.items) (map (λ t. t.jobs.items) tasks) (map (λ t. t.jobs.items) c.push_reserved.new.self.items)
          (into_iter_items c.loop-jobs.jobs-iterator) (into_iter_items c.next.new.self) c.in-Some.jobs _ was.order steps
          (ap (λ l. map (λ t. t.jobs.items) l) pushed.items ∙ map-append (λ t. t.jobs.items) tasks (task ∷ [])
          ∙ ap (λ jobs. map (λ t. t.jobs.items) tasks ++ jobs ∷ []) c.in_ok-task.ensures);
      room = omega (arith, ap length pushed.items, length-append tasks (task ∷ []), ap length steps, pushed.capacity, was.room);
    }

pub returns : goal.returns
returns c =
    all-done (λ v. v.items) (map (λ t. t.jobs.items) c.loop-jobs.tasks.items) (map (λ v. v.items) c.args.lists.items) (into_iter_items c.loop-jobs.jobs-iterator) _
    c.loop-jobs.invariant.order c.in-None.ensures.steps.0 c.loop-jobs.jobs-iterator.rest.ok.0
