-- What is given back is the first job's result, whose range was returned.
use Rattle.std.proofs.Common.{◌≡◌, ◌∙◌, ◌++◌, ◌∷◌, Bool, List, true, ap, subst, sym}
use Rattle.std.specs.Prelude.{option_to_list}
use Rattle.mbj_types.specs.declared.done.Done.{Done}
use Rattle.mbj_stage.specs.CourseState.{owed}
use Rattle.mbj_manager.specs.Cells.{Cell, course_in, given_by}
use Rattle.mbj_manager.specs.State.{ManagerState}
use Rattle.mbj_c.specs.Inside.Ranges.{AreOfJobs}
use Rattle.mbj_c.proofs.Ranges.{first-returned, first-within, given-of-jobs, given-ranged}
use Rattle.mbj_c.proofs.ranged.RangedManager.give_first.Goals as goal

pub write-requires-clause-range : goal.write-requires-clause-range
write-requires-clause-range c =
    let given : Cell = c.give_into.new.given in
    let after : List Done = c.give_into.new.self.owed in
    let m : ManagerState = c.self.inside.manager in
    let order : owed (course_in given) ∷ after ≡ c.first_range-range.new.self.owed =
    subst (λ (b : Bool). option_to_list (given_by b given) ++ after ≡ c.first_range-range.new.self.owed) c.if-not-give_into.false c.give_into.ensures.order in
    first-within m (owed (course_in given)) after c.in-Some.off c.in-Some.len c.self.invariant.of_jobs
    (order ∙ ap (λ (h : ManagerState). h.owed) c.first_range-range.ensures.same) (sym c.first_range-range.ensures.range ∙ c.in-Some.is)

pub unreachable-requires : goal.unreachable-requires
unreachable-requires c =
    let given : Cell = c.give_into.new.given in
    let after : List Done = c.give_into.new.self.owed in
    let m : ManagerState = c.self.inside.manager in
    let order : owed (course_in given) ∷ after ≡ c.first_range-range.new.self.owed =
    subst (λ (b : Bool). option_to_list (given_by b given) ++ after ≡ c.first_range-range.new.self.owed) c.if-not-give_into.false c.give_into.ensures.order in
    first-returned m (owed (course_in given)) after c.self.invariant.of_jobs
    (order ∙ ap (λ (h : ManagerState). h.owed) c.first_range-range.ensures.same) (sym c.first_range-range.ensures.range ∙ c.in-None.is)

pub invariant_of-self-2 : goal.invariant_of-self-2
invariant_of-self-2 c =
    record {
      of_jobs = subst AreOfJobs (sym c.give_into.ensures.state)
          (given-of-jobs c.first_range-range.new.self (subst AreOfJobs (sym c.first_range-range.ensures.same) c.self.invariant.of_jobs));
      blank = c.clear.ensures;
    }
