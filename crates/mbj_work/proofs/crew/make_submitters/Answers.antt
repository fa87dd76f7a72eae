-- Each list so far has its submitter, and the seats that are left are the next ones.
use Rattle.std.proofs.Common.{rules, ℕ, map, sym, ap, subst, ◌∙◌, arith, All}
use Rattle.std.proofs.lemmas.Iterator.Consumers.{YieldsList-turn, YieldsList-end}
use Rattle.std.proofs.lemmas.Iterator.Adapters.{YieldsList-from_vec}
use Rattle.std.proofs.lemmas.List.Elements.{All-push}
use Rattle.mbj_work.specs.Inside.Runs.{AreSeatsFrom, HasJobs}
use Rattle.mbj_work.proofs.Crews.{count_behind, jobs_with, seat_first, seats_behind}
use Rattle.mbj_work.proofs.crew.make_submitters.Goals as goal

pub loop-jobs-preserved : goal.loop-jobs-preserved
loop-jobs-preserved c = record {
  next = search rules;
  finite = search rules;
  seats = seats_behind c.args.front.now c.loop-jobs.yielded c.in-Some.jobs _ _ _ c.loop-jobs.invariant.seats c.in-Some-pop_front.ensures.items;
  count = count_behind c.loop-jobs.yielded c.in-Some.jobs _ _ _ _ c.loop-jobs.invariant.count c.in-Some-pop_front.ensures.items;
  ready = subst (All (HasJobs c.args.front.now)) (sym c.in_ok-push.ensures.items)
      (All-push (HasJobs c.args.front.now) _ _ c.loop-jobs.invariant.ready c.in_ok-submitter.ensures.ready);
  jobs = jobs_with _ _ _ c.loop-jobs.yielded c.in-Some.jobs c.loop-jobs.invariant.jobs c.in_ok-push.ensures.items c.in_ok-submitter.ensures.jobs;
}

pub loop-jobs-init : goal.loop-jobs-init
loop-jobs-init c = record {
  next = tt;
  finite = tt;
  seats = c.requires.seats;
  count = omega arith;
  ready = subst (All (HasJobs c.args.front.now)) (sym c.in_ok-submitters.ensures.items) (λ k d below. absurd (omega (arith, below)));
  jobs = ap (map (λ s. s.jobs)) c.in_ok-submitters.ensures.items;
}

pub unreachable-requires : goal.unreachable-requires
unreachable-requires c = let made = c.into_iter-jobs-iterator in
    let t = YieldsList-turn (YieldsList-from_vec {s = made.result} c.args.lists.items made.ensures.into_iter_gives.0 (made.ensures.into_iter_gives.1 ∙ c.args.lists.ok.0)) c.loop-jobs.yielded c.loop-jobs.jobs-iterator c.loop-jobs.yielded_by c.next.result c.next.new.self c.in-Some.jobs c.in-Some.is c.next.ensures.steps in
    omega (arith, t.0, c.in_default.ensures.cases.0, c.loop-jobs.seats.ok.0, c.loop-jobs.invariant.count, c.requires.enough, c.args.lists.ok.0)

pub new-requires-clause-front : goal.new-requires-clause-front
new-requires-clause-front c = (seat_first c.args.front.now _ c.in-Some-pop_front.seat _ _ c.loop-jobs.invariant.seats c.in-Some-pop_front.ensures.items).0

pub new-requires-clause-submitter : goal.new-requires-clause-submitter
new-requires-clause-submitter c = let made = c.into_iter-jobs-iterator in
    let t = YieldsList-turn (YieldsList-from_vec {s = made.result} c.args.lists.items made.ensures.into_iter_gives.0 (made.ensures.into_iter_gives.1 ∙ c.args.lists.ok.0)) c.loop-jobs.yielded c.loop-jobs.jobs-iterator c.loop-jobs.yielded_by c.next.result c.next.new.self c.in-Some.jobs c.in-Some.is c.next.ensures.steps in
    let first = seat_first c.args.front.now _ c.in-Some-pop_front.seat _ _ c.loop-jobs.invariant.seats c.in-Some-pop_front.ensures.items in
    omega (arith, t.0, ap (λ v. v.number) first.1, c.requires.submitters, c.args.lists.ok.0)

pub new-requires-clause-rest : goal.new-requires-clause-rest
new-requires-clause-rest c = ap (λ v. v.phase) (seat_first c.args.front.now _ c.in-Some-pop_front.seat _ _ c.loop-jobs.invariant.seats c.in-Some-pop_front.ensures.items).1

pub new-requires-clause-hand : goal.new-requires-clause-hand
new-requires-clause-hand c = ap (λ v. v.hand) (seat_first c.args.front.now _ c.in-Some-pop_front.seat _ _ c.loop-jobs.invariant.seats c.in-Some-pop_front.ensures.items).1

pub new-requires-clause-due : goal.new-requires-clause-due
new-requires-clause-due c = ap (λ v. v.due) (seat_first c.args.front.now _ c.in-Some-pop_front.seat _ _ c.loop-jobs.invariant.seats c.in-Some-pop_front.ensures.items).1

pub returns-clause-rest : goal.returns-clause-rest
returns-clause-rest c = let made = c.into_iter-jobs-iterator in
    let t = YieldsList-end (YieldsList-from_vec {s = made.result} c.args.lists.items made.ensures.into_iter_gives.0 (made.ensures.into_iter_gives.1 ∙ c.args.lists.ok.0)) c.loop-jobs.yielded c.loop-jobs.jobs-iterator c.loop-jobs.yielded_by c.next.result c.next.new.self c.in-None.is c.next.ensures.steps in
    subst (λ (n : ℕ). AreSeatsFrom c.args.front.now n c.loop-jobs.seats.items) (t.1 ∙ sym c.args.lists.ok.0) c.loop-jobs.invariant.seats
