use Rattle.std.proofs.Common.{◌≤◌, refl, arith, vec_len, vec_capacity}
use Rattle.mbj_work.specs.Inside.Runs.{HasJobs}
use Rattle.mbj_work.proofs.submitter.Submitter.new.Goals as goal

pub returns-clause-ready : goal.returns-clause-ready
unfolding HasJobs
returns-clause-ready c = (
  (c.args.seat, refl, record { of_front = c.requires.front; rest = c.requires.rest; hand = c.requires.hand }, c.requires.submitter, c.requires.due),
  c.in_ok-results.ensures.items,
  (c.args.jobs, refl, (let room : vec_len c.args.jobs ≤ vec_capacity c.in_ok-results.results = omega (arith, c.in_ok-results.ensures.capacity, c.len.ensures) in room)),
)
