use Rattle.std.proofs.Common.{inl, inr, arith}
use Rattle.mbj_job_tests.proofs.Gathering.{is-in}
use Rattle.mbj_job_tests.proofs.gathered.place_of.Goals as goal

pub unreachable-requires : goal.unreachable-requires
unreachable-requires c =
    elim (is-in c.args.i c.args.places.now) [
      | inl none ↦ none c.requires
      | inr at ↦ let lt = at.1 in c.places.invariant at.0 (omega arith) at.2
    ]
