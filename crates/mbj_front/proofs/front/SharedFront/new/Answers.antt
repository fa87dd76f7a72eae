-- The front is its table, and the seats are those that were cut.
use Rattle.std.proofs.Common.{[], ◌∙◌, ◌+◌, ◌≤◌, ℕ, sym, subst}
use Rattle.mbj_core.specs.declared.cells.TheConstants.{MAX_WORKERS}
use Rattle.mbj_front.specs.Rule.{root}
use Rattle.mbj_front.proofs.front.SharedFront.new.Goals as goal

pub lay_table-requires : goal.lay_table-requires
lay_table-requires g c = c.requires.submitters.1

pub invariant_of-front : goal.invariant_of-front
invariant_of-front g c = let laid = c.in_ok-table.ensures in record {
  wide = laid.words;
  submitters_are = laid.size.0;
  some_submitter = c.requires.submitters.0;
  few_submitters = c.requires.submitters.1;
}

pub cut_seats-requires : goal.cut_seats-requires
cut_seats-requires g c = let size = c.in_ok-table.ensures.size in let seat = c.in_ok-table.ensures.seat in record {
  parties = (λ i. sym size.0 i + sym size.1 i);
  workers = subst (λ (n : ℕ). n ≤ MAX_WORKERS) (sym size.1) c.requires.workers;
  table = seat.0;
  uncut = seat.1 ∙ (λ i. (root (sym size.0 i) (sym size.1 i) 0, []));
}

pub returns-clause-size : goal.returns-clause-size
returns-clause-size g c = c.in_ok-table.ensures.size

pub returns-clause-parties : goal.returns-clause-parties
returns-clause-parties g c = c.in_ok-seats.ensures.parties

pub returns-clause-seats : goal.returns-clause-seats
returns-clause-seats g c = c.in_ok-seats.ensures.seats
