use Rattle.mbj_ghash.proofs.BlockSums.{sum_of-none}
use Rattle.mbj_ghash.proofs.product_sum.Sum.new.Goals as goal

pub returns : goal.returns
returns c = sum_of-none
