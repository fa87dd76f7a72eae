use Rattle.std.proofs.Common.{◌≡◌, ◌∙◌, sym, ap, true, false, Bool, cond, ℕ, List, Some, None, Option, arith}
use Rattle.std.specs.Str.Parse.{digits_value, without_leading_plus}
use Rattle.std.proofs.lemmas.Bool.{false_from_ne_true}
use Rattle.clap.specs.ValueTests.{is_unsigned_in}
use Rattle.clap.specs.declared.builder.value_parser.ValueParser.TheVariants as vp
use Rattle.clap.proofs.ValueTestLemmas.{Accepts-accepts, accepts-Accepts}
use Rattle.mbj_command.proofs.options.parse_number.Goals as goal

is_in : (b : Bool) (n : ℕ) → b ≡ true → ◌≡◌ {A = Option ℕ} (cond b (Some n) None) (Some n)
is_in b n e = ap (λ c. cond c (Some n) None) e

is_out : (b : Bool) (n : ℕ) → ¬ (b ≡ true) → ◌≡◌ {A = Option ℕ} (cond b (Some n) None) None
is_out b n h = ap (λ c. cond c (Some n) None) (false_from_ne_true b h)

pub returns-then-number-greatest-clause-value : goal.returns-then-number-greatest-clause-value
returns-then-number-greatest-clause-value c =
    let text : List ℕ = c.args.text.now in
    let number : ℕ = digits_value 10 (without_leading_plus text) in
    let read = c.in-Ok.ensures.value.0 in
    let same : c.in-Ok.number ≡ number = read.1 in
    let within : is_unsigned_in c.args.least c.args.greatest text ≡ true = Accepts-accepts false (vp.Unsigned c.args.least c.args.greatest) text
    (read.0.0, read.0.1, omega (arith, same, c.if-least-number.true), omega (arith, same, c.if-number-greatest.true)) in
    ap Some same ∙ sym (is_in (is_unsigned_in c.args.least c.args.greatest text) number within)

pub returns-in-Err-clause-value : goal.returns-in-Err-clause-value
returns-in-Err-clause-value c =
    let text : List ℕ = c.args.text.now in
    sym (is_out (is_unsigned_in c.args.least c.args.greatest text) (digits_value 10 (without_leading_plus text)) (λ within.
    let is = accepts-Accepts false (vp.Unsigned c.args.least c.args.greatest) text within in c.in-Err.ensures.value.0 (is.0, is.1)))
