use Rattle.std.proofs.Common.{◌≡◌, vec_len, []}
use Rattle.mbj_front.specs.Rule.{root}
use Rattle.mbj_front.specs.Seats.{submitters_of, workers_of, IsIssued}
use Rattle.mbj_front.proofs.front.SharedFront.cut_seats.Given as goal

abbrev pub invariant-loop-party : goal.invariant-loop-party
invariant-loop-party g l = record {
  table : l.whole.table_id ≡ l.self.table.shared.table_id;
  cut : l.whole.me ≡ (root (submitters_of l.self) (workers_of l.self) l.party, []);
  parties : vec_len l.seats ≡ l.party;
  seats : IsIssued l.self l.seats.items;
}
