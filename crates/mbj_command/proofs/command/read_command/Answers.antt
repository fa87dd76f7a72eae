use Rattle.std.proofs.Common.{◌≡◌, ◌∙◌, sym, ap, true, cond, refl, suc, length, List, [], ◌∷◌, Some, None, Option, map, inl, inr, arith}
use Rattle.std.specs.Prelude.{option_and_then, if◌then◌else◌, string_bytes}
use Rattle.std.proofs.lemmas.Bool.{eqb-true, false_from_ne_true}
use Rattle.clap.specs.Words.{App, HasKind, Kinds, Row, Text, app_of, fault_of, is_simple, is_simple_and_free, kind_of, matches_of, subcommand_of}
use Rattle.clap.specs.Walk.{is_empty}
use Rattle.clap.specs.declared.error.Error.{Error}
use Rattle.clap.specs.declared.error.kind.ErrorKind.TheVariants.{OutOfMemory}
use Rattle.mbj_command.specs.Command.{app, command, found_command}
use Rattle.mbj_command.specs.declared.command.Command.{Command}
use Rattle.mbj_command.proofs.command.read_command.Goals as goal

is_free : is_simple_and_free app ≡ true
is_free = refl

is_plain : is_simple app ≡ true
is_plain = refl

-- an error that isn't for want of memory tells of a fault
faulty : (kinds : Kinds) (e : Error) (c : Option Command) → HasKind kinds e → ¬ (kind_of e ≡ OutOfMemory)
    → ◌≡◌ {A = Option Command} (if is_empty kinds then c else None) None
faulty kinds e c (inl memory) is_not = absurd (is_not memory)
faulty [] e c (inr h) is_not = absurd h
faulty (k ∷ ks) e c (inr h) is_not = ap (λ b. cond b c None)
    (false_from_ne_true (is_empty (k ∷ ks)) (λ same. let none : suc (length ks) ≡ 0 = eqb-true _ _ same in absurd (omega (arith, none))))

-- if clap, told of the set, finds no fault, the words are the command that was found
faultless : (words : List Text) (a : App) (rows : List Row) (used : Option (Text × List Row)) (c : Option Command)
    → a ≡ app → (is_simple_and_free a ≡ true → fault_of a words ≡ [])
    → (is_simple a ≡ true → (rows ≡ matches_of a words) × (used ≡ subcommand_of a words))
    → c ≡ option_and_then found_command used → command words ≡ c
unfolding command
faultless words a rows used c told calm matches is =
    let none = ap (λ (x : App). fault_of x words) (sym told) ∙ calm (ap is_simple_and_free told ∙ is_free) in
    let entered = (matches (ap is_simple told ∙ is_plain)).1 ∙ ap (λ (x : App). subcommand_of x words) told in
    ap (λ kinds. if is_empty kinds then option_and_then found_command (subcommand_of app words) else None) none
    ∙ sym (is ∙ ap (option_and_then found_command) entered)

pub returns-in-Err-clause-none : goal.returns-in-Err-clause-none
unfolding command
returns-in-Err-clause-none c = λ is_text.
    let words : List Text = map string_bytes c.args.words.now in
    let told : app_of c.in-Ok.set ≡ app = c.in-Ok.ensures in
    let found = option_and_then found_command (subcommand_of app words) in
    ap (λ (a : App). if is_empty (fault_of a words) then found else None) (sym told)
    ∙ faulty (fault_of (app_of c.in-Ok.set) words) c.in-Err.error found (c.in-Err.ensures.kinds (ap is_simple_and_free told ∙ is_free)) (c.fault_of.ensures is_text)

pub returns-in-Some-clause-found : goal.returns-in-Some-clause-found
returns-in-Some-clause-found c =
    let got = c.in-Ok-try_get_matches_from.ensures in
    faultless _ _ _ _ (Some c.in-Some.command) c.in-Ok.ensures got.kinds got.matches (sym c.in-Some.is ∙ c.found_command.ensures.meaning)

pub returns-clause-none : goal.returns-clause-none
returns-clause-none c = λ is_text.
    let got = c.in-Ok-try_get_matches_from.ensures in
    faultless _ _ _ _ None c.in-Ok.ensures got.kinds got.matches (sym c.in-None.is ∙ c.found_command.ensures.meaning)
