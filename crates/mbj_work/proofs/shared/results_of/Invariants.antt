use Rattle.std.proofs.Common.{◌≡◌, All, map, vec_capacity}
use Rattle.mbj_work.specs.Inside.Runs.{IsDone}
use Rattle.mbj_work.proofs.shared.results_of.Given as goal

abbrev pub invariant-loop-submitter : goal.invariant-loop-submitter
invariant-loop-submitter l = record {
  next : (goal.iterator-loop-submitter).can_next l.submitter-iterator;
  finite : (goal.iterator-loop-submitter).is_finite l.submitter-iterator;
  given : l.given.items ≡ map (λ s. s.results) l.yielded;
  room : vec_capacity l.given ≡ vec_capacity l.initial.given;
  done : All IsDone l.yielded;
}
