use Rattle.std.proofs.Common.{rules}
use Rattle.std.proofs.lemmas.List.{drop-replicate}
use Rattle.mbj_hmac.proofs.key.filled.Goals as goal

pub returns : goal.returns
returns c = simp drop-replicate (search rules)
