-- A handle crosses threads as the set behind it does.
use denote.Param.Send.{IsSend}
use Rattle.mbj_c.proofs.Crosses.{KeysHandle-send}
use Rattle.mbj_c.specs.contracts.key_handle.KeysHandle.{the_row}

pub send : IsSend the_row
send = KeysHandle-send
