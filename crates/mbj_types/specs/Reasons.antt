-- The numbers of the reasons for which a job is refused.
use Rattle.std.specs.Prelude.{ℕ}
use Rattle.mbj_types.specs.declared.reason.Reason.{Reason}
use Rattle.mbj_types.specs.declared.reason.Reason.TheVariants.{PacketLong, GcmPair, CipherKey, IvLength, CipherRange, CipherLength, AuthKey, HashRange, AadLong, TagLength}

abbrev pub number_of : Reason → ℕ
number_of PacketLong = 1
number_of GcmPair = 2
number_of CipherKey = 3
number_of IvLength = 4
number_of CipherRange = 5
number_of CipherLength = 6
number_of AuthKey = 7
number_of HashRange = 8
number_of AadLong = 9
number_of TagLength = 10
