use Rattle.mbj_c.proofs.Packets.{packet-with-range}
use Rattle.mbj_c.proofs.laws.packets_change_in_their_range_alone.Goals as goal

pub returns : goal.returns
returns c = packet-with-range
