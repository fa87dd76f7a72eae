-- The manager stays, and the spare cell is blank.
use Rattle.std.proofs.Common.{subst, sym}
use Rattle.mbj_c.specs.Inside.Ranges.{AreOfJobs}
use Rattle.mbj_c.proofs.ranged.RangedManager.trim.Goals as goal

pub invariant_of-self : goal.invariant_of-self
invariant_of-self c = record { of_jobs = subst AreOfJobs (sym c.trim.ensures) c.self.invariant.of_jobs; blank = c.clear.ensures }
