use Rattle.mbj_gen.proofs.Sums.{sum-all}
use Rattle.mbj_gen.proofs.summary.Summary.lines.Goals as goal

pub returns : goal.returns
returns c = λ results sum all. sum-all results c.args.self c.finalize.result sum all c.finalize.ensures
