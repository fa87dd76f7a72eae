-- A flush step takes one of those that are ahead.
use Rattle.std.proofs.Common.{◌≡◌, ◌∙◌, [], Some, slice_get, refl, ap, sym, subst, arith}
use Rattle.mbj_manager.specs.Machine.Queues.{run_within}
use Rattle.mbj_manager.specs.declared.lane.Cause.TheVariants as cause
use Rattle.mbj_manager.specs.Machine.Course.{course, flushed, stages_left}
use Rattle.mbj_manager.specs.State.{ManagerState}
use Rattle.mbj_manager.proofs.Flushing.{flush-end, flush-next, flush-start}
use Rattle.mbj_manager.proofs.Moving.{same-state}
use Rattle.mbj_manager.proofs.engine.Engine.flush_first.Goals as goal

pub flushing-init : goal.flushing-init
flushing-init c = record { reaches = flush-start c.args.self.now.machine; owed_is = refl; jobs_are = refl; opened_is = refl; count_is = refl; idle = c.requires }

pub flushing-preserved : goal.flushing-preserved
flushing-preserved c =
    let m = c.flushing.self.machine in
    let ran = c.run_first.ensures.ran in
    let settled = c.follow_course.ensures.course in
    let kind = sym c.first_kind.ensures.kind ∙ c.in-Some.is in
    let same = ap (λ (h : ManagerState). h.machine) c.first_kind.ensures.same in
    let machine : c.follow_course.new.self.machine ≡ course cause.Flush (run_within cause.Flush c.in-Some.kind m)
    = ap (λ (h : ManagerState). h.machine) settled ∙ ap (course cause.Flush) (ap (λ (h : ManagerState). h.machine) ran ∙ ap (run_within cause.Flush c.in-Some.kind) same) in
    record {
      reaches = flush-next m c.follow_course.new.self.machine (flushed c.args.self.now.machine) c.in-Some.kind kind machine
          (omega (arith, c.follow_course.ensures.stages, c.run_first.ensures.stages, ap (λ (h : ManagerState). stages_left h.machine.left) c.first_kind.ensures.same))
          c.flushing.invariant.reaches;
      owed_is = ap (λ (h : ManagerState). h.owed) settled ∙ ap (λ (h : ManagerState). h.owed) ran
          ∙ ap (λ (h : ManagerState). h.owed) c.first_kind.ensures.same ∙ c.flushing.invariant.owed_is;
      jobs_are = ap (λ (h : ManagerState). h.jobs) settled ∙ ap (λ (h : ManagerState). h.jobs) ran
          ∙ ap (λ (h : ManagerState). h.jobs) c.first_kind.ensures.same ∙ c.flushing.invariant.jobs_are;
      opened_is = ap (λ (h : ManagerState). h.opened) settled ∙ ap (λ (h : ManagerState). h.opened) ran
          ∙ ap (λ (h : ManagerState). h.opened) c.first_kind.ensures.same ∙ c.flushing.invariant.opened_is;
      count_is = ap (λ (h : ManagerState). h.expansions) settled ∙ ap (λ (h : ManagerState). h.expansions) ran
          ∙ ap (λ (h : ManagerState). h.expansions) c.first_kind.ensures.same ∙ c.flushing.invariant.count_is;
      idle = c.follow_course.ensures.idle;
    }

pub returns-in-None-clause-flushed : goal.returns-in-None-clause-flushed
returns-in-None-clause-flushed c =
    let m = c.flushing.self.machine in
    c.first_kind.ensures.same
    ∙ same-state c.flushing.invariant.owed_is c.flushing.invariant.jobs_are c.flushing.invariant.opened_is
    (flush-end m (flushed c.args.self.now.machine) (sym c.first_kind.ensures.kind ∙ c.in-None.is) c.flushing.invariant.reaches) c.flushing.invariant.count_is

pub returns-in-None-clause-done : goal.returns-in-None-clause-done
returns-in-None-clause-done c owes =
    subst (λ (h : ManagerState). slice_get h.machine.left 0 ≡ Some []) (sym c.first_kind.ensures.same)
    (c.first_kind.ensures.done c.in-None.is (λ none. owes (sym c.flushing.invariant.owed_is ∙ none)))
