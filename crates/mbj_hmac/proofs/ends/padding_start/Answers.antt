use Rattle.std.proofs.Common.{◌∷◌, ap, arith, add-one}
use Rattle.std.proofs.lemmas.List.{take-replicate}
use Rattle.mbj_hmac.proofs.ends.padding_start.Goals as goal

pub returns : goal.returns
returns c = rw add-one (ap (λ xs. 0x80 ∷ xs) (take-replicate c.args.zeros 143 0 (omega arith)))
