use Rattle.mbj_trace.specs.Inside.State.{state_of}
use Rattle.mbj_trace.proofs.TraceLines.{whole}
use Rattle.mbj_trace.proofs.tracer.Tracer.tell.Goals as goal

pub returns : goal.returns
returns c =
    let old = c.args.self.now in
    let first = c.submit_all.new.self in
    let second = c.take_all.new.self in
    let third = c.take_all-2.new.self in
    whole c.args.jobs.items (state_of old) (state_of first) (state_of second) (state_of third)
    old.lines.items first.lines.items second.lines.items third.lines.items c.count.new.self.lines.items
    c.requires.fresh c.requires.none c.in_ok-submit_all.ensures.lines c.in_ok-submit_all.ensures.state
    c.in_ok-take_all.ensures.lines c.in_ok-take_all.ensures.state c.in_ok-take_all-2.ensures.lines c.in_ok-take_all-2.ensures.state c.in_ok-count.ensures
