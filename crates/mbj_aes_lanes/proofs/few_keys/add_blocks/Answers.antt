-- One register more has its sum in each turn.
use Rattle.std.proofs.Common.{ℕ, ◌+◌, ◌*◌, List, [], get_or, bit_xor, refl, ap, ◌∙◌, arith}
use Rattle.mbj_types.specs.Blocks.{xor_lists}
use Rattle.mbj_types.specs.Lanes.{lane_at}
use Rattle.mbj_aes.specs.BlockWords.{block_byte, block_at}
use Rattle.mbj_aes.proofs.BlockWords.{block_with-same}
use Rattle.mbj_aes_lanes.proofs.EachRegister.{none_done, one_more}
use Rattle.mbj_aes_lanes.proofs.LayoutRounds.{summed_bytes}
use Rattle.mbj_aes_lanes.proofs.few_keys.add_blocks.Goals as goal

pub registers-init : goal.registers-init
registers-init g c = none_done _ c.args.registers.now c.args.registers.now 0 refl refl

pub registers-preserved : goal.registers-preserved
registers-preserved g c =
    let byte = block_byte (lane_at 8) in
    let block = c.blocks_of.result in
    let none : List ℕ = [] in
    let before = get_or c.registers.registers c.registers.i none in
    one_more _ c.args.registers.now c.registers.registers c.registers.i none c.xored.result (omega arith)
    (λ b h.
    block_with-same (byte c.xored.result b) (λ j. bit_xor (byte block b j) (byte before b j)) (λ j k. c.xored.ensures (16 * b + j) (omega arith))
    ∙ summed_bytes (byte block b) (byte before b)
    ∙ ap (λ x. xor_lists x (block_at (lane_at 8) before b)) (c.blocks_of.ensures b h))
    c.registers.invariant

pub returns : goal.returns
returns g c i b d h k = c.registers.invariant.done i d (omega arith) b k
