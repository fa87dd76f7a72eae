-- The job at the place has its packet here, and goes on as the first of an agenda in which it stands before the others.
use Rattle.std.proofs.Common.{◌∷◌, refl, map, sym, vec_capacity}
use Rattle.mbj_manager.specs.Inside.Courses.{courses, ring_number}
use Rattle.mbj_manager.specs.Inside.Held.{lines_in}
use Rattle.mbj_manager.proofs.Advancing.{enters, finishes, first-here, may-enter, none-pending}
use Rattle.mbj_manager.proofs.engine.go_on.Goals as goal

pub run_nows-requires-clause-here : goal.run_nows-requires-clause-here
run_nows-requires-clause-here c =
    let r = c.args.ring.now in
    let f = ring_number r in
    let waiting = c.args.agenda.now.places.items in
    first-here (f c.args.place) (map f waiting) (courses r) (map f (c.args.place ∷ waiting)) (lines_in r c.args.queues.now) c.args.queues.now.flush_runs refl
    c.requires.held.within c.requires.held.tied

pub enter-requires-clause-may : goal.enter-requires-clause-may
enter-requires-clause-may c =
    let e = c.in-Lane.ensures in
    let waiting = c.args.agenda.now.places.items in
    may-enter c.args.ring.now c.run_nows.new.ring c.args.place (c.args.place ∷ waiting) waiting c.args.queues.now (vec_capacity c.args.agenda.now.places)
    e.follows.0 c.requires.held refl e.ring e.follows.1.0 e.follows.1.1.1 c.in-Lane.kind (sym e.follows.1.1.0)

pub returns-in-Lane-clause-kept : goal.returns-in-Lane-clause-kept
returns-in-Lane-clause-kept c =
    let e = c.in-Lane.ensures in
    let waiting = c.args.agenda.now.places.items in
    (enters c.args.ring.now c.run_nows.new.ring c.args.place (c.args.place ∷ waiting) waiting c.args.queues.now (vec_capacity c.args.agenda.now.places)
    e.follows.0 c.requires.held refl e.ring e.follows.1.0 e.follows.1.1.1 c.args.cause c.in-Lane.kind c.enter.new.ring c.enter.new.agenda.places.items
    c.enter.new.self (sym e.follows.1.1.0) c.enter.ensures.ring c.enter.ensures.others c.enter.ensures.entered).kept

pub returns-in-Lane-clause-step : goal.returns-in-Lane-clause-step
returns-in-Lane-clause-step c =
    let e = c.in-Lane.ensures in
    let waiting = c.args.agenda.now.places.items in
    (enters c.args.ring.now c.run_nows.new.ring c.args.place (c.args.place ∷ waiting) waiting c.args.queues.now (vec_capacity c.args.agenda.now.places)
    e.follows.0 c.requires.held refl e.ring e.follows.1.0 e.follows.1.1.1 c.args.cause c.in-Lane.kind c.enter.new.ring c.enter.new.agenda.places.items
    c.enter.new.self (sym e.follows.1.1.0) c.enter.ensures.ring c.enter.ensures.others c.enter.ensures.entered).is

pub returns-in-Now-clause-kept : goal.returns-in-Now-clause-kept
returns-in-Now-clause-kept c =
    let r = c.args.ring.now in
    let e = c.run_nows.ensures in
    let waiting = c.args.agenda.now.places.items in
    (finishes r c.run_nows.new.ring c.args.place (c.args.place ∷ waiting) waiting c.args.queues.now (vec_capacity c.args.agenda.now.places)
    e.follows.0 c.requires.held refl e.ring e.follows.1.0 e.follows.1.1.1 c.args.cause
    (none-pending e.follows.0 (ring_number r c.args.place) (courses r) c.run_nows.result e.follows.1.1.1 e.follows.1.1.0 c.in-Now.is)).kept

pub returns-in-Now-clause-step : goal.returns-in-Now-clause-step
returns-in-Now-clause-step c =
    let r = c.args.ring.now in
    let e = c.run_nows.ensures in
    let waiting = c.args.agenda.now.places.items in
    (finishes r c.run_nows.new.ring c.args.place (c.args.place ∷ waiting) waiting c.args.queues.now (vec_capacity c.args.agenda.now.places)
    e.follows.0 c.requires.held refl e.ring e.follows.1.0 e.follows.1.1.1 c.args.cause
    (none-pending e.follows.0 (ring_number r c.args.place) (courses r) c.run_nows.result e.follows.1.1.1 e.follows.1.1.0 c.in-Now.is)).is
