-- The cells cross threads as their values do.
use denote.RattleType.{RattleType}
use denote.Param.Send.{IsSend}
use Rattle.mbj_ring.proofs.Crosses.{Cells-send}
use Rattle.mbj_ring.specs.contracts.cells.Cells.{the_row}

pub send : (R : RattleType) → IsSend R → IsSend (the_row R)
send = Cells-send
