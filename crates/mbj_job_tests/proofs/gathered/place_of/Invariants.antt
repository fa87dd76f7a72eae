use Rattle.std.proofs.Common.{◌≡◌, ℕ, ◌<◌, get_or}
use Rattle.mbj_job_tests.proofs.gathered.place_of.Given as goal

abbrev pub invariant-places : goal.invariant-places
invariant-places l = (j : ℕ) → j < l.k → l.i ≡ get_or l.places j l.i → ⊥
