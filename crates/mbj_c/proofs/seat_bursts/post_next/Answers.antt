-- A job that isn't posted changes nothing, and its code is the wanted one or that of want of memory.
use Rattle.mbj_c.specs.Seats.{posted}
use Rattle.mbj_c.proofs.Bursting.{untaken-answer, untaken-state}
use Rattle.mbj_c.proofs.PostRefused.{post-for-another, post-kept}
use Rattle.mbj_c.proofs.seat_bursts.post_next.Goals as goal

pub returns-in-Err-clause-answer : goal.returns-in-Err-clause-answer
returns-in-Err-clause-answer c =
    let before = c.args.handle.now.seat in
    let want = posted c.args.raw.now before in
    untaken-answer want.0 want.1 before c.post.new.handle.seat c.in-Err.reason c.code.result c.code.ensures c.in-Err.ensures
    (post-for-another c.args.raw.now before)

pub returns-in-Err-clause-state : goal.returns-in-Err-clause-state
returns-in-Err-clause-state c =
    let before = c.args.handle.now.seat in
    let want = posted c.args.raw.now before in
    untaken-state c.args.posted.now want.0 want.1 before c.post.new.handle.seat c.in-Err.reason c.code.result c.code.ensures
    c.in-Err.ensures (post-kept c.args.raw.now before)
