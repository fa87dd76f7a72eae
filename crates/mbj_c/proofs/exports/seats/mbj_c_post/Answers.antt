use Rattle.std.proofs.Common.{◌≡◌, ◌≢◌, ◌∙◌, subst}
use Rattle.mbj_c.specs.Seats.{posted}
use Rattle.mbj_c.proofs.Answered.{code-wanted, state-kept, state-wanted}
use Rattle.mbj_c.proofs.PostRefused.{post-kept}
use Rattle.mbj_c.proofs.exports.seats.mbj_c_post.Goals as goal

pub returns-clause-answer : goal.returns-clause-answer
returns-clause-answer c other =
    let want = posted c.args.raw.now c.args.handle.now.seat in
    c.code.ensures
    ∙ code-wanted want.0 want.1 c.args.handle.now.seat c.post.result c.post.new.handle.seat c.post.ensures (subst (λ n. n ≢ 23) c.code.ensures other)

pub returns-clause-state : goal.returns-clause-state
returns-clause-state c other =
    let want = posted c.args.raw.now c.args.handle.now.seat in
    state-wanted want.0 want.1 c.args.handle.now.seat c.post.result c.post.new.handle.seat c.post.ensures (subst (λ n. n ≢ 23) c.code.ensures other)

pub returns-clause-unchanged : goal.returns-clause-unchanged
returns-clause-unchanged c memory =
    let before = c.args.handle.now.seat in
    let want = posted c.args.raw.now before in
    state-kept want.0 want.1 before c.post.result c.post.new.handle.seat c.post.ensures (post-kept c.args.raw.now before)
    (subst (λ n. n ≡ 23) c.code.ensures memory)
