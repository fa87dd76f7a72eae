-- The command line, by clap's meaning of a set of commands.
use Rattle.std.specs.Prelude.{◌-◌, ◌^◌, ◌≤◌, ℕ, true, false, List, [], ◌∷◌, Option, Some, None, codes, find, map, option_and_then, option_map, if◌then◌else◌}
use Rattle.std.specs.Str.{bytes_eq}
use Rattle.std.specs.Str.Parse.{digits_value, without_leading_plus}
use Rattle.clap.specs.Words.{App, Row, Rule, Shape, Text, first_of, new_rule, subcommand_of}
use Rattle.clap.specs.Simple.{new_shape}
use Rattle.clap.specs.Walk.{is_empty}
use Rattle.clap.specs.Faults.{fault_of}
use Rattle.clap.specs.ValueTests.{is_unsigned_in}
use Rattle.clap.specs.declared.builder.action.ArgAction.TheVariants.{Set}
use Rattle.clap.specs.declared.builder.value_parser.ValueParser.TheVariants as vp
use Rattle.mbj_core.specs.declared.cells.TheConstants.{MAX_SUBMITTERS, MAX_WORKERS}
use Rattle.mbj_ring.specs.declared.ring.TheConstants.{CELLS}
use Rattle.mbj_text.specs.declared.limits.TheConstants.{JOB_LIMIT}
use Rattle.mbj_command.specs.declared.command.Command.{Command}
use Rattle.mbj_command.specs.declared.command.Command.TheVariants.{Run, Trace, Burst, Gen, Replay}

-- ---- the options

-- a required option with a whole number from least to greatest
pub record RangedOption : Type 0 where
  pub name : Text
  pub least : ℕ
  pub greatest : ℕ

abbrev pub submitters : RangedOption
submitters = record { name = codes "submitters"; least = 1; greatest = MAX_SUBMITTERS }

abbrev pub workers : RangedOption
workers = record { name = codes "workers"; least = 0; greatest = MAX_WORKERS }

abbrev pub seed : RangedOption
seed = record { name = codes "seed"; least = 0; greatest = 2 ^ 64 - 1 }

abbrev pub jobs : RangedOption
jobs = record { name = codes "jobs"; least = 0; greatest = JOB_LIMIT }

abbrev pub size : RangedOption
size = record { name = codes "size"; least = 1; greatest = CELLS }

-- an option as clap is told it
abbrev pub rule : RangedOption → Rule
rule o = record (new_rule o.name) {
  long = Some o.name;
  value_names = 1;
  required = true;
  action = Some Set;
  parser = Some (vp.Unsigned o.least o.greatest);
}

-- the number that a text is, if it is in range; a plus sign and zeros may stand in front
abbrev pub number_within : ℕ → ℕ → Text → Option ℕ
number_within least greatest text =
    if is_unsigned_in least greatest text then Some (digits_value 10 (without_leading_plus text)) else None

-- the number that was given to an option
abbrev pub option_number : List Row → RangedOption → Option ℕ
option_number rows o = option_and_then (number_within o.least o.greatest) (first_of o.name rows)

-- ---- the commands

-- a command with its options, as clap is told it
abbrev pub shape : Text → List RangedOption → Shape
shape name options = record (new_shape name) { rules = map rule options }

-- the command with the submitters and workers that were given
abbrev pub with_parties : (ℕ → ℕ → Command) → List Row → Option Command
with_parties c rows = option_and_then (λ s. option_map (c s) (option_number rows workers)) (option_number rows submitters)

abbrev pub burst_of : List Row → Option Command
burst_of rows = option_map Burst (option_number rows size)

abbrev pub gen_of : List Row → Option Command
gen_of rows = option_and_then (λ n. option_and_then (λ m. with_parties (Gen n m) rows) (option_number rows jobs)) (option_number rows seed)

-- each command as clap is told it, and what is meant by the options that clap found
abbrev pub commands : List (Shape × (List Row → Option Command))
commands =
    (shape (codes "run") (submitters ∷ workers ∷ []), with_parties Run)
    ∷ (shape (codes "trace") [], λ rows. Some Trace)
    ∷ (shape (codes "burst") (size ∷ []), burst_of)
    ∷ (shape (codes "gen") (seed ∷ jobs ∷ submitters ∷ workers ∷ []), gen_of)
    ∷ (shape (codes "replay") (submitters ∷ workers ∷ []), with_parties Replay)
    ∷ []

-- ---- the words

-- the program, which has a version and needs one of the commands
abbrev pub app : App
app = record {
  top = record (new_shape (codes "mbjobs")) { is_leaf = false; has_version = true; subcommand_required = true };
  subs = map (λ c. c.0) commands;
}

-- the command of the name and the options that clap found
abbrev pub found_command : Text × List Row → Option Command
found_command used = option_and_then (λ c. c.1 used.1) (find (λ c. bytes_eq used.0 c.0.name) commands)

-- the command that the words are, the first of which is the program's name, if clap finds no fault
unfoldable pub command : List Text → Option Command
command words = if is_empty (fault_of app words) then option_and_then found_command (subcommand_of app words) else None

-- ---- what is known of a command

abbrev pub IsInOption : RangedOption → ℕ → Type 0
IsInOption o n = (o.least ≤ n) × (n ≤ o.greatest)

abbrev pub IsParties : ℕ → ℕ → Type 0
IsParties s w = IsInOption submitters s × IsInOption workers w

-- each number is in its option's range
abbrev pub IsInRange : Command → Type 0
IsInRange (Run s w) = IsParties s w
IsInRange Trace = Unit {0}
IsInRange (Burst n) = IsInOption size n
IsInRange (Gen n m s w) = IsInOption seed n × IsInOption jobs m × IsParties s w
IsInRange (Replay s w) = IsParties s w
