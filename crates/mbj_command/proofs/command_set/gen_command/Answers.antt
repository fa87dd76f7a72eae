use Rattle.std.proofs.Common.{◌∙◌, ap}
use Rattle.std.proofs.lemmas.Result.{IfOk-weaker}
use Rattle.clap.specs.Words.{App}
use Rattle.clap.specs.Simple.{with_rule}
use Rattle.mbj_command.specs.Command.{jobs, rule, seed, submitters, workers}
use Rattle.mbj_command.proofs.command_set.gen_command.Goals as goal

pub returns-clause-shape : goal.returns-clause-shape
returns-clause-shape c =
    let seeded = c.in_ok-command.ensures.app ∙ ap (λ (a : App). with_rule a (rule seed)) c.bare_command-command.ensures.app in
    let counted = c.in_ok-command-2.ensures.app ∙ ap (λ (a : App). with_rule a (rule jobs)) seeded in
    IfOk-weaker c.with_parties.result _ _
    (λ r is. ap (λ (a : App). a.top) (is ∙ ap (λ (a : App). with_rule (with_rule a (rule submitters)) (rule workers)) counted)) c.with_parties.ensures.app
