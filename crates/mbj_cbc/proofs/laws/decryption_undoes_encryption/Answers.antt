-- The law, block by block.
use Rattle.mbj_cbc.proofs.Undoing.{cbc_undone}
use Rattle.mbj_cbc.proofs.laws.decryption_undoes_encryption.Goals as goal

pub returns : goal.returns
returns c = cbc_undone
