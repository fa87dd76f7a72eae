use Rattle.std.proofs.Common.{◌≡◌, drop}
use Rattle.mbj_lane.specs.Rounds.{least, least_from}
use Rattle.mbj_job_tests.proofs.gathered.shortest.Given as goal

abbrev pub invariant-rests : goal.invariant-rests
invariant-rests g l = least_from g.K.Kernel.rest_of l.least (drop l.entry-index l.entries) ≡ least g.K.Kernel.rest_of l.entries
