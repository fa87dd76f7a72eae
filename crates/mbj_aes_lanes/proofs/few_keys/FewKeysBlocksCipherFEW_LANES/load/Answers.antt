-- One register more has its blocks in each turn, and the block in lane p is block p % 2 of register p / 2.
use Rattle.std.proofs.Common.{◌≡◌, ℕ, ◌+◌, ◌*◌, ◌/◌, ◌%◌, List, [], refl, ap, ◌∙◌, arith}
use Rattle.std.proofs.lemmas.List.{length-replicate}
use Rattle.mbj_aes_lanes.proofs.EachRegister.{none_done, one_more}
use Rattle.mbj_aes_lanes.proofs.few_keys.FewKeysBlocksCipherFEW_LANES.load.Goals as goal

pub registers-init : goal.registers-init
registers-init g c = none_done _ _ _ 0 refl refl

pub registers-preserved : goal.registers-preserved
registers-preserved g c =
    let none : List ℕ = [] in
    one_more _ _ c.registers.chains c.registers.i none c.blocks_of.result (omega (arith, length-replicate g.row.N c.splat-chains.result)) (λ b h. c.blocks_of.ensures b h) c.registers.invariant

pub returns : goal.returns
returns g c p h =
    let place : 2 * (p / 2) + p % 2 ≡ p = omega arith in
    c.registers.invariant.done (p / 2) [] (omega (arith, h, c.args.self.now.few)) (p % 2) (omega arith)
    ∙ ap (g.B.LaneBlocks.block_in c.args.blocks.now) place
