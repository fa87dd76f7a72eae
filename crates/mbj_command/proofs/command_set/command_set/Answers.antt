use Rattle.std.proofs.Common.{◌∙◌, ap, ap₂, [], ◌∷◌}
use Rattle.std.specs.Prelude.{codes}
use Rattle.std.proofs.lemmas.Result.{IfOk-weaker}
use Rattle.clap.specs.Words.{App, Shape}
use Rattle.clap.specs.Simple.{with_subcommand}
use Rattle.mbj_command.specs.Command.{jobs, seed, shape, size, submitters, workers}
use Rattle.mbj_command.proofs.command_set.command_set.Goals as goal

pub returns : goal.returns
returns c =
    let run : Shape = shape (codes "run") (submitters ∷ workers ∷ []) in
    let burst : Shape = shape (codes "burst") (size ∷ []) in
    let gen : Shape = shape (codes "gen") (seed ∷ jobs ∷ submitters ∷ workers ∷ []) in
    let replay : Shape = shape (codes "replay") (submitters ∷ workers ∷ []) in
    let one = c.in_ok-set.ensures run c.run_command.ensures.shape ∙ ap (λ (a : App). with_subcommand a run) c.program.ensures in
    let two = c.in_ok-set-2.ensures.shape c.trace_command.ensures.local ∙ ap₂ with_subcommand one c.trace_command.ensures.shape in
    let three = c.in_ok-set-3.ensures burst c.burst_command.ensures.shape ∙ ap (λ (a : App). with_subcommand a burst) two in
    let four = c.in_ok-set-4.ensures gen c.gen_command.ensures.shape ∙ ap (λ (a : App). with_subcommand a gen) three in
    IfOk-weaker c.with_command-4.result _ _ (λ r is. is ∙ ap (λ (a : App). with_subcommand a replay) four)
    (c.with_command-4.ensures replay c.replay_command.ensures.shape)
