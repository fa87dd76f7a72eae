use Rattle.std.proofs.Common.{◌∙◌, ◌≤◌, List, ℕ, arith, subst, sym}
use Rattle.mbj_gen.proofs.DrawnBytes.{IsDrawn, draws_all, draws_none, draws_one}
use Rattle.mbj_gen.proofs.draws.Draws.bytes.Goals as goal

pub loop-init : goal.loop-init
loop-init c =
    let P : List ℕ → Type 0 = λ drawn. IsDrawn c.args.count 0 c.args.self.now.state drawn c.args.self.now.state in
    subst P (sym c.in_ok-drawn.ensures.items) (draws_none c.args.count c.args.self.now.state)

pub loop-preserved : goal.loop-preserved
loop-preserved c = draws_one c.args.count c.loop.counter c.args.self.now.state _ _ c.loop.self.state _ _ c.loop.invariant c.loop-test.true
    c.byte.ensures.value c.byte.ensures.state c.in_ok-push.ensures.items

pub returns : goal.returns
returns c =
    let all : c.args.count ≤ c.loop.counter = omega arith in
    let drawn = draws_all _ _ _ _ _ c.loop.invariant all in
    (c.from_vec.ensures ∙ drawn.0, drawn.1)
