-- The law, cipher by cipher.
use Rattle.mbj_stage.proofs.PacketLengths.{length-result_of}
use Rattle.mbj_stage.proofs.laws.results_keep_length.Goals as goal

pub returns : goal.returns
returns c = length-result_of
