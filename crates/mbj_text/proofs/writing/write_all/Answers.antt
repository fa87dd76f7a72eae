-- A write takes the front of what is left.
use Rattle.mbj_text.proofs.Flows.{flows_then, flows_write}
use Rattle.mbj_text.proofs.writing.write_all.Goals as goal

pub loop-rest-preserved : goal.loop-rest-preserved
loop-rest-preserved g c =
    let taken = flows_write c.in_ok-taken.taken c.loop-rest.rest.now c.in_ok-taken.ensures.bytes c.in_ok-taken.ensures.calm in
    rw c.split_at.ensures.back (flows_then c.loop-rest.invariant taken)
