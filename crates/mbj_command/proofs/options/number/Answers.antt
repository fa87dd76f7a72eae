use Rattle.std.proofs.Common.{◌∙◌, sym, ap, ℕ, List, Option, option_map}
use Rattle.std.specs.Prelude.{option_and_then}
use denote.Ref.{Bor}
use Rattle.clap.specs.Words.{found_of}
use Rattle.clap.proofs.WalkLemmas.{first_value-rows}
use Rattle.mbj_command.specs.Command.{number_within}
use Rattle.mbj_command.proofs.options.number.Goals as goal

pub returns-in-Some-clause-value : goal.returns-in-Some-clause-value
returns-in-Some-clause-value c =
    let given = sym (first_value-rows (found_of c.args.matches.now) c.args.option.now.name.now) ∙ sym c.get_str.ensures
    ∙ ap (λ (o : Option (Bor (List ℕ))). option_map (λ x. x.now) o) c.in-Some.is in
    c.parse_number.ensures.value ∙ sym (ap (λ (o : Option (List ℕ)). option_and_then (number_within c.args.option.now.least c.args.option.now.greatest) o) given)

pub returns-in-None-clause-value : goal.returns-in-None-clause-value
returns-in-None-clause-value c =
    let given = sym (first_value-rows (found_of c.args.matches.now) c.args.option.now.name.now) ∙ sym c.get_str.ensures
    ∙ ap (λ (o : Option (Bor (List ℕ))). option_map (λ x. x.now) o) c.in-None.is in
    sym (ap (λ (o : Option (List ℕ)). option_and_then (number_within c.args.option.now.least c.args.option.now.greatest) o) given)
