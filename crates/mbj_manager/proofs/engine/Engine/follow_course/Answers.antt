-- A step takes one of those that are ahead.
use Rattle.std.proofs.Common.{◌≡◌, ◌<◌, [], ◌∙◌, refl, ap, sym, subst, arith, rules}
use Rattle.mbj_manager.specs.Machine.Queues.{Machine}
use Rattle.mbj_manager.specs.Machine.Course.{course}
use Rattle.mbj_manager.specs.State.{ManagerState}
use Rattle.mbj_manager.proofs.Moving.{same-state}
use Rattle.mbj_manager.proofs.Reaching.{Reaches, reaches-end, reaches-start, reaches-step}
use Rattle.mbj_manager.specs.Inside.Steps.{steps_ahead}
use Rattle.mbj_manager.proofs.engine.Engine.follow_course.Goals as goal

pub following-init : goal.following-init
following-init c = record { reaches = reaches-start c.args.cause c.args.self.now.machine; owed_is = refl; jobs_are = refl; opened_is = refl; count_is = refl; stages = omega arith }

pub following-preserved : goal.following-preserved
following-preserved c =
    let at = c.args.cause in
    let m = c.following.self.machine in
    let end = course at c.args.self.now.machine in
    let step = c.go_on_first.ensures.step in
    let machine = ap (λ (h : ManagerState). h.machine) step in
    record {
      reaches = subst (λ (x : Machine). Reaches at x end) (sym machine)
          (reaches-step at m end (subst (λ (x : Machine). steps_ahead x < steps_ahead m) machine c.go_on_first.ensures.fewer) c.following.invariant.reaches);
      owed_is = ap (λ (h : ManagerState). h.owed) step ∙ c.following.invariant.owed_is;
      jobs_are = ap (λ (h : ManagerState). h.jobs) step ∙ c.following.invariant.jobs_are;
      opened_is = ap (λ (h : ManagerState). h.opened) step ∙ c.following.invariant.opened_is;
      count_is = ap (λ (h : ManagerState). h.expansions) step ∙ c.following.invariant.count_is;
      stages = omega (arith, c.go_on_first.ensures.stages, c.following.invariant.stages);
    }

pub returns-clause-course : goal.returns-clause-course
returns-clause-course c =
    let at = c.args.cause in
    let m = c.following.self.machine in
    let none : m.agenda ≡ [] = search rules in
    same-state c.following.invariant.owed_is c.following.invariant.jobs_are c.following.invariant.opened_is
    (reaches-end at m (course at c.args.self.now.machine) none c.following.invariant.reaches) c.following.invariant.count_is
