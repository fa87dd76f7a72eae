use Rattle.std.proofs.Common.{◌≡◌, replicate}
use Rattle.mbj_front.specs.declared.slot.Slot.TheVariants.{Blank}
use Rattle.mbj_front.proofs.making.blank_slots.Given as goal

abbrev pub invariant-loop : goal.invariant-loop
invariant-loop g l = l.slots.items ≡ replicate l.counter Blank
