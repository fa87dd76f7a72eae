-- The course at the place changes, and no other.
use Rattle.std.proofs.Common.{◌≡◌, None, refl}
use Rattle.mbj_stage.specs.CourseState.{CourseState}
use Rattle.mbj_manager.specs.Cells.{IsGoing, course_in}
use Rattle.mbj_manager.specs.Inside.Courses.{Follows, KeepsSteps, ring_number}
use Rattle.mbj_manager.proofs.RingCourses.{at-cell, cell-at, courses-set, each-at, live, same-ring}
use Rattle.mbj_manager.proofs.lane.run_nows.Goals as goal

pub at_mut-cell-requires : goal.at_mut-cell-requires
at_mut-cell-requires c = live (λ (x : CourseState). x.out ≡ None) c.args.ring.now c.args.place c.requires.place c.requires.here

pub run_nows-requires-clause-going : goal.run_nows-requires-clause-going
run_nows-requires-clause-going c =
    let r = c.args.ring.now in
    each-at IsGoing (ring_number r c.args.place) r.values c.at_mut-cell.result.now c.at_mut-cell.ensures.value c.requires.ring.going

pub run_nows-requires-clause-here : goal.run_nows-requires-clause-here
run_nows-requires-clause-here c =
    let r = c.args.ring.now in
    at-cell (λ (x : CourseState). x.out ≡ None) (ring_number r c.args.place) r.values c.at_mut-cell.result.now c.at_mut-cell.ensures.value c.requires.here

pub returns-clause-ring : goal.returns-clause-ring
returns-clause-ring c =
    let r = c.args.ring.now in
    same-ring r (ring_number r c.args.place) c.run_nows.new.self c.requires.ring c.run_nows.ensures.going
    (c.run_nows.ensures.follows.steps_are
    (each-at KeepsSteps (ring_number r c.args.place) r.values c.at_mut-cell.result.now c.at_mut-cell.ensures.value c.requires.ring.steps))

pub returns-clause-follows : goal.returns-clause-follows
returns-clause-follows c =
    let r = c.args.ring.now in
    let w = c.run_nows.new.self in (
      course_in w,
      (
        courses-set (λ (x : CourseState). course_in w) (ring_number r c.args.place) r.values c.at_mut-cell.result.now w c.at_mut-cell.ensures.value refl,
        (c.run_nows.ensures.stage, cell-at (Follows (course_in w)) (ring_number r c.args.place) r.values c.at_mut-cell.result.now c.at_mut-cell.ensures.value c.run_nows.ensures.follows),
      ),
    )
