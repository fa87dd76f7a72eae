-- The bytes before the index are xored.
use Rattle.std.proofs.Common.{◌≡◌, ◌++◌, take, drop}
use Rattle.mbj_types.specs.Blocks.{xor_lists}
use Rattle.mbj_types.proofs.block.xor_in_place.Given as goal

abbrev pub invariant-loop-i : goal.invariant-loop-i
invariant-loop-i l = l.text ≡ xor_lists (take l.i l.initial.text) l.mask ++ drop l.i l.initial.text
