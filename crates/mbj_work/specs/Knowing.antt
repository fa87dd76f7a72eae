-- What a party knows of shared keys.
use Rattle.std.specs.Prelude.{◌<◌, ℕ, List, [], Option, Some, None, IsSome, length}
use Rattle.std.specs.Arc.{arc_value}
use Rattle.mbj_keys.specs.Sessions.{AreOf, Known, Session, entry_of}
use Rattle.mbj_work.specs.declared.lender.Lender.{Lender}
use Rattle.mbj_work.specs.declared.lender.Lender.TheVariants.{Owner, Share}

-- notes of these sessions that know each of them
pub record KnowsAll (sessions : List Session) (notes : List Known) : Type 0 where
  pub notes_are : AreOf sessions notes
  pub all : (n : ℕ) → n < length sessions → IsSome (entry_of notes n)

-- the notes of a party that shares keys, and none of one that doesn't
abbrev pub notes_in : Option (List Known) → List Known
notes_in None = []
notes_in (Some notes) = notes

-- the sessions that are lent
abbrev pub keys_at : Lender → List Session
keys_at (Owner keys) = keys.now
keys_at (Share keys) = arc_value keys
