-- No bit is set and what is left is equal exactly where the slices are equal; as much is left of both.
use Rattle.std.proofs.Common.{◌≡◌, ◌↔◌, length}
use Rattle.mbj_aes.proofs.compare.differences.Given as goal

abbrev pub invariant-loop-a : goal.invariant-loop-a
invariant-loop-a l = record {
  next : (goal.iterator-loop-a).can_next l.a-iterator;
  finite : (goal.iterator-loop-a).is_finite l.a-iterator;
  lengths : length l.a-iterator.a.rest.now ≡ length l.a-iterator.b.rest.now;
  equal : ((l.bits ≡ 0) × (l.a-iterator.a.rest.now ≡ l.a-iterator.b.rest.now)) ↔ (l.one ≡ l.other);
}
