-- The jobs are handed over from a new manager on, and then all is flushed.
use Rattle.mbj_burst.specs.Inside.State.{state_of}
use Rattle.mbj_burst.proofs.BurstLines.{whole-told}
use Rattle.mbj_burst.proofs.burster.tell_bursts.Goals as goal

pub returns-clause-lines : goal.returns-clause-lines
returns-clause-lines c =
    let old = c.in_ok-burster.burster in
    let then = c.submit_all.new.self in
    whole-told c.args.size c.args.jobs.items (state_of old) (state_of then) old.lines.items then.lines.items c.flush_all.new.self.lines.items
    c.in_ok-burster.ensures.state c.in_ok-burster.ensures.lines c.in_ok-submit_all.ensures.lines c.in_ok-submit_all.ensures.state
    c.in_ok-flush_all.ensures.lines
