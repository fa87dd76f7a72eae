use Rattle.std.proofs.Common.{◌≡◌, [], replicate}
use Rattle.mbj_core.proofs.hand.empty_hands.Given as goal

abbrev pub invariant-loop : goal.invariant-loop
invariant-loop l = l.hands.items ≡ replicate l.counter []
