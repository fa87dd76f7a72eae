-- There is a result owed for each course.
use Rattle.std.proofs.Common.{◌∙◌, length, ap, sym}
use Rattle.std.proofs.lemmas.List.{length-map}
use Rattle.mbj_stage.specs.CourseState.{owed}
use Rattle.mbj_manager.specs.State.{ManagerState}
use Rattle.mbj_manager.specs.Cells.{course_in}
use Rattle.mbj_manager.specs.Inside.Courses.{courses}
use Rattle.mbj_manager.specs.Inside.Held.{find_in, lines_in, restored_in}
use Rattle.mbj_manager.proofs.Restoring.{restored-length}
use Rattle.mbj_manager.proofs.engine.Engine.len.Goals as goal

pub returns-clause-size : goal.returns-clause-size
returns-clause-size c =
    let f = c.self.inside in
    c.len.ensures.len ∙ sym (length-map f.ring.values course_in) ∙ sym (restored-length 0 (find_in (lines_in f.ring f.queues.value)) (courses f.ring))
    ∙ sym (length-map (restored_in f.ring f.queues.value) owed)
    ∙ ap (λ (h : ManagerState). length h.owed) c.self.view_is
