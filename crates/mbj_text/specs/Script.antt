-- What a script line spells, and which field of a bad one is its fault.
use Rattle.std.specs.Prelude.{◌≡◌, ◌⊎◌, ℕ, List, [], ◌∷◌}
use Rattle.mbj_text.specs.declared.command.Cmd.{Cmd}
use Rattle.mbj_text.specs.declared.command.Cmd.TheVariants as command
use Rattle.mbj_text.specs.declared.command.Verb.{Verb}
use Rattle.mbj_text.specs.declared.command.Verb.TheVariants as verb
use Rattle.mbj_text.specs.Cut.{Numbered}
use Rattle.mbj_text.specs.Words.{verb_word}
use Rattle.mbj_text.specs.Spelling.{Form, Below, Values, SpellsFields, HasFault, fields_of}
use Rattle.mbj_text.specs.Stops.{SpellEach, StopsAt}

-- ---- lines

-- the verb of a command
abbrev pub verb_of_command : Cmd → Verb
verb_of_command (command.Post submitter) = verb.Post
verb_of_command (command.Claim worker submitter) = verb.Claim
verb_of_command (command.Flush worker) = verb.Flush
verb_of_command (command.Collect submitter) = verb.Collect

-- the forms of the fields behind a verb's word: of submitters and of workers, numbers below how many there are
abbrev pub number_forms : ℕ → ℕ → Verb → List Form
number_forms submitters workers verb.Post = Below submitters ∷ []
number_forms submitters workers verb.Claim = Below workers ∷ Below submitters ∷ []
number_forms submitters workers verb.Flush = Below workers ∷ []
number_forms submitters workers verb.Collect = Below submitters ∷ []

-- the numbers of a command, in the order of the line
abbrev pub numbers : (submitters workers : ℕ) (c : Cmd) → Values (number_forms submitters workers (verb_of_command c))
numbers submitters workers (command.Post submitter) = (submitter, tt)
numbers submitters workers (command.Claim worker submitter) = (worker, (submitter, tt))
numbers submitters workers (command.Flush worker) = (worker, tt)
numbers submitters workers (command.Collect submitter) = (submitter, tt)

-- the line spells the command: the word of its verb, and then its numbers
pub record SpellsCommand (submitters workers : ℕ) (line : List ℕ) (c : Cmd) : Type 0 where
  pub texts : List (List ℕ)
  pub fields : fields_of line ≡ verb_word (verb_of_command c) ∷ texts
  pub numbers_are : SpellsFields (number_forms submitters workers (verb_of_command c)) texts (numbers submitters workers c)

-- the line begins with the word of a verb, and these fields are behind it
pub record HasVerb (line : List ℕ) : Type 0 where
  pub word : Verb
  pub texts : List (List ℕ)
  pub fields : fields_of line ≡ verb_word word ∷ texts

-- the line spells no command, and its fault is field f: 1 if its first field is no verb's word, else 0 if it hasn't
-- as many fields as the verb asks, else the number of the first one that isn't a number below its limit
abbrev pub IsBadCommand : ℕ → ℕ → List ℕ → ℕ → Type 0
IsBadCommand submitters workers line f =
    ((f ≡ 1) × ¬ (HasVerb line))
    ⊎ ((begins : HasVerb line) × HasFault 2 (number_forms submitters workers begins.word) begins.texts f)

-- ---- scripts

-- there are as many commands as lines, and each line spells its command
abbrev pub SpellScript : ℕ → ℕ → List Numbered → List Cmd → Type 0
SpellScript submitters workers lines commands = SpellEach (λ before. SpellsCommand submitters workers) lines commands

-- the line with this number is the first one that spells no command; the field is its fault
abbrev pub BadScript : ℕ → ℕ → List Numbered → ℕ → ℕ → Type 0
BadScript submitters workers lines line field =
    StopsAt (λ before. SpellsCommand submitters workers) (λ before text. IsBadCommand submitters workers text field) lines line
