-- The results before the next one are added.
use Rattle.std.proofs.Common.{◌≡◌}
use Rattle.mbj_gen.specs.Sums.{IsSumOf}
use Rattle.mbjobs.proofs.generate.summarize.Given as goal

abbrev pub invariant-loop-number : goal.invariant-loop-number
invariant-loop-number l = IsSumOf l.fn.results l.summary × (l.summary.count ≡ l.number)
