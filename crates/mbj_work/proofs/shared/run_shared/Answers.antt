-- Each list has its submitter, and each submitter its results.
use Rattle.std.proofs.Common.{◌≡◌, List, map, Result, Ok, Err, All, IfOk, sym, ap, subst, ◌∙◌, arith}
use Rattle.std.specs.Prelude.{OnOk}
use Rattle.std.specs.declared.vec.Vec.{Vec}
use Rattle.std.specs.declared.alloc.Global.{Global}
use Rattle.std.specs.declared.alloc.AllocError.{AllocError}
use Rattle.std.proofs.lemmas.Simd.{map-map}
use Rattle.mbj_types.specs.declared.job.Job.{Job}
use Rattle.mbj_types.specs.declared.done.Done.{Done}
use Rattle.mbj_front.specs.declared.seat.PartySeat.{PartySeat}
use Rattle.mbj_types.specs.Result.{result_of}
use Rattle.mbj_work.specs.declared.submitter.Submitter.{Submitter}
use Rattle.mbj_work.specs.Inside.Runs.{AreSeatsFrom, IsDone}
use Rattle.mbj_work.proofs.Crews.{as_many_results, issued_seats, results_of_all}
use Rattle.mbj_work.proofs.shared.run_shared.Goals as goal

pub make_submitters-requires-clause-seats : goal.make_submitters-requires-clause-seats
make_submitters-requires-clause-seats g c =
    subst (λ (l : List (PartySeat Job Done)). AreSeatsFrom c.in_ok-front.front 0 l) (sym c.from-seats.ensures.0)
    (issued_seats c.in_ok-front.front c.in_ok-front.seats.items c.in_ok-front.ensures.seats)

pub returns : goal.returns
returns g c =
    given c.results_of.result c.results_of.ensures.results c.results_of.ensures.done
  where
    olds : List Submitter
    olds = c.in_ok-submitters.submitters.items

    news : List Submitter
    news = c.in_ok-done.done.items

    given : (r : Result (Vec (Vec Done Global) Global) AllocError) → IfOk r (λ v. v.items ≡ map (λ s. s.results) news) → OnOk r (All IsDone news)
        → IfOk r (λ rs. map (λ r. r.items) rs.items ≡ map (λ l. map result_of l.items) c.args.lists.items)
    given (Ok v) is done =
        ap (λ l. map (λ r. r.items) l) is ∙ map-map (λ r. r.items) (λ s. s.results) news
        ∙ results_of_all olds news c.args.lists.items c.in_ok-submitters.ensures.jobs c.in_ok-done.ensures done
    given (Err e) is done = tt

pub make_workers-requires : goal.make_workers-requires
make_workers-requires g c = (_, c.in_ok-submitters.ensures.rest)

pub make_submitters-requires-clause-submitters : goal.make_submitters-requires-clause-submitters
make_submitters-requires-clause-submitters g c = omega (arith, c.in_ok-front.ensures.size.0, c.len.ensures)

pub run_beside-requires-clause-submitters : goal.run_beside-requires-clause-submitters
run_beside-requires-clause-submitters g c κs within = c.in_ok-submitters.ensures.ready

pub run_beside-requires-clause-workers : goal.run_beside-requires-clause-workers
run_beside-requires-clause-workers g c κs within = c.in_ok-workers.ensures

pub results_of-requires-clause-none : goal.results_of-requires-clause-none
results_of-requires-clause-none g c = c.in_ok-given.ensures.items

pub results_of-requires-clause-room : goal.results_of-requires-clause-room
results_of-requires-clause-room g c =
    let count = as_many_results c.in_ok-submitters.submitters.items c.in_ok-done.done.items c.args.lists.items c.in_ok-submitters.ensures.jobs c.in_ok-done.ensures in
    omega (arith, count, c.in_ok-done.done.ok.0, c.args.lists.ok.0, c.len.ensures, c.in_ok-given.ensures.capacity)
