use Rattle.std.proofs.Common.{arith}
use Rattle.mbj_aes.proofs.MovedBytes.{extracted_at}
use Rattle.mbj_aes.proofs.moves.first_block.Goals as goal

pub returns : goal.returns
returns c j h = extracted_at 32 c.args.x 0 j c.fits-x.0 c.fits-x.1 (omega arith) h
