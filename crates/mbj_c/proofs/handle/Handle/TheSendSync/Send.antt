-- A handle crosses threads as the manager behind it does.
use denote.Param.Send.{IsSend}
use Rattle.mbj_c.proofs.Crosses.{Handle-send}
use Rattle.mbj_c.specs.contracts.handle.Handle.{the_row}

pub send : IsSend the_row
send = Handle-send
