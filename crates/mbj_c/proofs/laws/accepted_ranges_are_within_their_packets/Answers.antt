use Rattle.mbj_c.proofs.Packets.{cipher-range-within, hash-range-within}
use Rattle.mbj_c.proofs.laws.accepted_ranges_are_within_their_packets.Goals as goal

pub returns-clause-cipher : goal.returns-clause-cipher
returns-clause-cipher c = cipher-range-within

pub returns-clause-hash : goal.returns-clause-hash
returns-clause-hash c = hash-range-within
