-- There is a result owed for each course, so a cell is left; a blank job is open behind the others.
use Rattle.std.proofs.Common.{◌+◌, ◌<◌, ◌++◌, ◌∷◌, [], List, length, length-append, vec_capacity, ap, sym, ◌∙◌, subst, arith}
use Rattle.std.proofs.lemmas.List.{length-map, map_push}
use Rattle.std.proofs.lemmas.List.Elements.{All-push}
use Rattle.mbj_types.specs.Blank.{blank}
use Rattle.mbj_types.specs.declared.job.Job.{Job}
use Rattle.mbj_ring.specs.declared.ring.TheConstants.{CELLS}
use Rattle.mbj_stage.specs.CourseState.{owed}
use Rattle.mbj_manager.specs.State.{ManagerState, with_blanks}
use Rattle.mbj_manager.specs.Cells.{course_in, IsOpen, job_in, Cell}
use Rattle.mbj_manager.specs.Inside.Courses.{courses}
use Rattle.mbj_manager.specs.Inside.Held.{find_in, lines_in, restored_in, IsHeld, held}
use Rattle.mbj_manager.proofs.Restoring.{restored-length}
use Rattle.mbj_manager.specs.Cells as cell
use Rattle.mbj_manager.proofs.RingCourses.{open-held}
use Rattle.mbj_ring.specs.Ring.{RingState}
use Rattle.mbj_manager.proofs.engine.Engine.open_cell.Goals as goal

pub open_cell-requires : goal.open_cell-requires
open_cell-requires c =
    let f = c.self.inside in
    let few = subst (λ (h : ManagerState). length h.owed + length h.opened < CELLS) (sym c.self.view_is) c.requires in
    omega (
      arith,
      few,
      length-map f.ring.values course_in,
      length-map f.ring.opened job_in,
      length-append f.ring.values f.ring.opened,
      restored-length 0 (find_in (lines_in f.ring f.queues.value)) (courses f.ring),
      length-map (restored_in f.ring f.queues.value) owed,
    )

pub invariant_of-self : goal.invariant_of-self
invariant_of-self c =
    let w = c.self.inside in
    subst (λ (x : RingState Cell). IsHeld x w.agenda.places.items w.queues.value (vec_capacity w.agenda.places)) (sym c.open_cell.ensures)
    (open-held w.ring (w.ring.opened ++ cell.Open blank ∷ []) w.agenda.places.items w.queues.value (vec_capacity w.agenda.places)
    (All-push IsOpen w.ring.opened (cell.Open blank) c.self.invariant.is_open tt) c.self.invariant)

pub returns : goal.returns
returns c =
    let w = c.self.inside in
    ap (λ (x : RingState Cell). held x w.agenda.places.items w.queues.value) c.open_cell.ensures
    ∙ ap (λ (js : List Job). record (held w.ring w.agenda.places.items w.queues.value) { opened = js })
    (map_push job_in w.ring.opened (cell.Open blank))
    ∙ ap (with_blanks 1) c.self.view_is
