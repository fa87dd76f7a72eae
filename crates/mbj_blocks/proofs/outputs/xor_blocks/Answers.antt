-- One block more is xored in each turn.
use Rattle.std.proofs.Common.{◌≡◌, ℕ, ◌+◌, [], get_or, length, arith}
use Rattle.mbj_blocks.proofs.Walk.{walk_xor}
use Rattle.mbj_blocks.proofs.outputs.xor_blocks.Goals as goal

pub each-init : goal.each-init
each-init c rest whole known walked =
    let here : c.args.first + 0 ≡ c.args.first = omega arith in
    rw here walked

pub each-preserved : goal.each-preserved
each-preserved c rest whole known walked =
    let j : ℕ = c.each.j in
    let next : c.args.first + (j + 1) ≡ c.args.first + j + 1 = omega arith in
    let inside = c.each-test.true in
    rw next
    (walk_xor (rest j) (rest (j + 1)) c.each.text (get_or c.args.outputs.now j []) _ whole (c.args.first + j) (omega arith)
    (c.told-outputs j inside) (λ b bs. known j b bs inside) c.xor_output.ensures (c.each.invariant rest whole known walked))

pub returns : goal.returns
returns c rest whole known walked =
    let all : c.each.j ≡ length c.args.outputs.now = omega arith in
    rw all at (c.each.invariant rest whole known walked)
