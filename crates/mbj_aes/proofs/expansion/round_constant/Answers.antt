-- The table holds the powers of the definition.
use Rattle.std.proofs.Common.{◌-◌, [], ◌∷◌, ap, arith}
use Rattle.mbj_aes.proofs.RoundConstants.{round_constant_is}
use Rattle.mbj_aes.proofs.expansion.round_constant.Goals as goal

pub returns : goal.returns
returns c = ap (λ r. r ∷ 0 ∷ 0 ∷ 0 ∷ []) (round_constant_is (c.args.j - 1) (omega arith))
