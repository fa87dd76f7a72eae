-- A handle crosses threads as the seat behind it does.
use denote.Param.Send.{IsSend}
use Rattle.mbj_c.proofs.Crosses.{SeatHandle-send}
use Rattle.mbj_c.specs.contracts.seat_handle.SeatHandle.{the_row}

pub send : IsSend the_row
send = SeatHandle-send
