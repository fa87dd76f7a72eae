use Rattle.std.proofs.Common.{◌∙◌, ap}
use Rattle.std.proofs.lemmas.Result.{IfOk-weaker}
use Rattle.clap.specs.Words.{App}
use Rattle.clap.specs.Simple.{with_rule}
use Rattle.mbj_command.specs.Command.{rule, workers}
use Rattle.mbj_command.proofs.command_set.with_parties.Goals as goal

pub returns-clause-app : goal.returns-clause-app
returns-clause-app c = IfOk-weaker c.with_option-2.result _ _
    (λ r is. is ∙ ap (λ (a : App). with_rule a (rule workers)) c.in_ok-command.ensures.app) c.with_option-2.ensures.app
