-- The law, block by block.
use Rattle.mbj_ccm.proofs.Opening.{ccm_undone}
use Rattle.mbj_ccm.proofs.laws.opening_undoes_sealing.Goals as goal

pub returns : goal.returns
returns c = ccm_undone
