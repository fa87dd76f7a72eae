use Rattle.std.proofs.Common.{◌∙◌, refl}
use Rattle.mbj_gen.proofs.Sums.{number-of-test, sum-next}
use Rattle.mbj_gen.proofs.summary.Summary.add.Goals as goal

pub returns-clause-sum : goal.returns-clause-sum
returns-clause-sum c = λ results sum next.
    sum-next results c.args.self.now _ c.args.done.now c.is_ok.result c.from.result c.as_bytes-text.result.now sum next c.is_ok.ensures
    (c.from.ensures ∙ number-of-test c.is_ok.result) (c.as_bytes-text.ensures.value ∙ c.of-line.ensures) c.update.ensures refl refl refl
