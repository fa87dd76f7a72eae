-- What a ring ends as, once a `&mut` into it has ended.
use Rattle.std.specs.Prelude.{ℕ, Option}
use Rattle.std.specs.Borrow.{Fml, RattleType, MutBor, Lends, LendsIf}
use Rattle.mbj_ring.specs.Ring.{RingState, number_at, with_open_at, with_value_at}
use Rattle.mbj_ring.specs.contracts.ring.Ring.{the_row}

module _ (R : RattleType) (b : MutBor (RingState R.Denot)) where
  -- the first open value is the last one written through r, and at `None` the ring stays as it is
  abbrev pub LendsOpen : Option (MutBor R.Denot) → Fml
  LendsOpen r = LendsIf (the_row R) R b r (with_open_at b.now 0) b.now

  -- open value i is the last one written through r
  abbrev pub LendsOpenAt : ℕ → MutBor R.Denot → Fml
  LendsOpenAt i r = Lends (the_row R) R b r (with_open_at b.now i)

  -- the first value is the last one written through r, and at `None` the ring stays as it is
  abbrev pub LendsFront : Option (MutBor R.Denot) → Fml
  LendsFront r = LendsIf (the_row R) R b r (with_value_at b.now 0) b.now

  -- the value at the place is the last one written through r
  abbrev pub LendsAt : ℕ → MutBor R.Denot → Fml
  LendsAt p r = Lends (the_row R) R b r (with_value_at b.now (number_at b.now p))
