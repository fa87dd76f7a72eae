use Rattle.std.proofs.Common.{refl}
use Rattle.mbj_args.proofs.table.passes_end.Goals as goal

pub returns : goal.returns
returns c = refl
