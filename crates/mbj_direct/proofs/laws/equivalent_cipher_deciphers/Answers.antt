-- The law, key by key.
use Rattle.mbj_direct.proofs.Equivalent.{equivalent}
use Rattle.mbj_direct.proofs.laws.equivalent_cipher_deciphers.Goals as goal

pub returns : goal.returns
returns c = equivalent
