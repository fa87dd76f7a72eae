-- There is a result owed for each course.
use Rattle.std.proofs.Common.{◌≤◌, ◌+◌, ◌∙◌, length, length-append, ap, sym, subst, arith}
use Rattle.std.proofs.lemmas.List.{length-map}
use Rattle.mbj_ring.specs.declared.ring.TheConstants.{CELLS}
use Rattle.mbj_manager.specs.State.{ManagerState}
use Rattle.mbj_manager.specs.Cells.{course_in, job_in}
use Rattle.mbj_manager.specs.Inside.Courses.{courses}
use Rattle.mbj_stage.specs.CourseState.{owed}
use Rattle.mbj_manager.specs.Inside.Held.{find_in, lines_in, restored_in}
use Rattle.mbj_manager.proofs.Restoring.{restored-length}
use Rattle.mbj_manager.proofs.engine.Engine.open_len.Goals as goal

pub returns-clause-size : goal.returns-clause-size
returns-clause-size c = c.open_len.ensures.len ∙ sym (length-map c.self.inside.ring.opened job_in) ∙ ap (λ (h : ManagerState). length h.opened) c.self.view_is

pub returns-clause-within : goal.returns-clause-within
returns-clause-within c =
    let f = c.self.inside in
    subst (λ (h : ManagerState). length h.owed + c.open_len.result ≤ CELLS) c.self.view_is
    (omega (
      arith,
      c.open_len.ensures.within.0,
      c.open_len.ensures.len,
      length-append f.ring.values f.ring.opened,
      length-map f.ring.values course_in,
      restored-length 0 (find_in (lines_in f.ring f.queues.value)) (courses f.ring),
      length-map (restored_in f.ring f.queues.value) owed,
    ))
