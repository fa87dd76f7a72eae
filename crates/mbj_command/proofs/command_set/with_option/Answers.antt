use Rattle.std.proofs.Common.{◌≡◌, ◌∙◌, ◌||◌, ap, true, false, refl, Bool}
use Rattle.std.proofs.lemmas.Result.{IfOk-weaker}
use Rattle.clap.specs.declared.builder.command.Command.TheViews.{out-Command as fields_of}
use Rattle.mbj_command.proofs.command_set.with_option.Goals as goal

or_false : (b : Bool) → (b || false) ≡ b
or_false true = refl
or_false false = refl

pub returns-clause-local : goal.returns-clause-local
returns-clause-local c =
    let before : Bool = (fields_of c.args.command).has_globals in
    IfOk-weaker c.arg.result _ _ (λ r adds. adds.globals ∙ ap (λ g. before || g) c.argument.ensures.local ∙ or_false before) c.arg.ensures
