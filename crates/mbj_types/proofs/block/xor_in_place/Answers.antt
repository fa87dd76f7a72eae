-- One byte more is xored in each turn, and at the end all are.
use Rattle.std.proofs.Common.{refl, arith}
use Rattle.mbj_types.proofs.XorLists.{xor_lists-next, xor_lists-whole}
use Rattle.mbj_types.proofs.block.xor_in_place.Goals as goal

pub loop-i-init : goal.loop-i-init
loop-i-init c = refl

pub loop-i-preserved : goal.loop-i-preserved
loop-i-preserved c =
    xor_lists-next c.args.text.now c.args.mask.now c.loop-i.text c.loop-i.i (omega arith) (omega arith) c.loop-i.invariant

pub returns : goal.returns
returns c = xor_lists-whole c.args.text.now c.args.mask.now c.loop-i.text c.loop-i.i (omega arith) c.loop-i.invariant
