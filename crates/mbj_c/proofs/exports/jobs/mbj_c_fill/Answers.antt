use Rattle.std.proofs.Common.{◌≡◌, ◌≢◌, ◌∙◌, subst}
use Rattle.mbj_c.specs.Filling.{filled}
use Rattle.mbj_c.proofs.Answered.{code-wanted, state-kept, state-wanted}
use Rattle.mbj_c.proofs.Refused.{refused-kept}
use Rattle.mbj_c.proofs.exports.jobs.mbj_c_fill.Goals as goal

pub returns-clause-answer : goal.returns-clause-answer
returns-clause-answer c other =
    let want = filled c.args.raw.now c.args.handle.now.manager in
    c.code.ensures
    ∙ code-wanted want.0 want.1 c.args.handle.now.manager c.fill.result c.fill.new.handle.manager c.fill.ensures (subst (λ n. n ≢ 23) c.code.ensures other)

pub returns-clause-state : goal.returns-clause-state
returns-clause-state c other =
    let want = filled c.args.raw.now c.args.handle.now.manager in
    state-wanted want.0 want.1 c.args.handle.now.manager c.fill.result c.fill.new.handle.manager c.fill.ensures (subst (λ n. n ≢ 23) c.code.ensures other)

pub returns-clause-unchanged : goal.returns-clause-unchanged
returns-clause-unchanged c memory =
    let before = c.args.handle.now.manager in
    let want = filled c.args.raw.now before in
    state-kept want.0 want.1 before c.fill.result c.fill.new.handle.manager c.fill.ensures (refused-kept 0 c.args.raw.now before)
    (subst (λ n. n ≡ 23) c.code.ensures memory)
