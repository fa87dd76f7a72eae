-- Each command that a script spells is for parties that there are.
use Rattle.std.proofs.Common.{◌<◌, [], ◌∷◌, ◌++◌, All, List, ℕ, zero, suc, arith, get_or, length}
use Rattle.mbj_text.specs.Cut.{Numbered}
use Rattle.mbj_text.specs.Script.{SpellsCommand, SpellScript, number_forms, numbers, verb_of_command}
use Rattle.mbj_text.specs.Spelling.{SpellsFields}
use Rattle.mbj_text.specs.Stops.{SpellBehind}
use Rattle.mbj_text.specs.declared.command.Cmd.{Cmd}
use Rattle.mbj_text.specs.declared.command.Cmd.TheVariants as command
use Rattle.mbj_replay.specs.Replay.{IsFor}

-- the numbers that a line spells are those of parties that there are
spells-for : (s w : ℕ) (c : Cmd) (texts : List (List ℕ)) → SpellsFields (number_forms s w (verb_of_command c)) texts (numbers s w c) → IsFor s w c
spells-for s w (command.Post n) (text ∷ texts) spells = spells.0.1
spells-for s w (command.Claim m n) (first ∷ (second ∷ texts)) spells = (spells.0.1, spells.1.0.1)
spells-for s w (command.Flush m) (text ∷ texts) spells = spells.0.1
spells-for s w (command.Collect n) (text ∷ texts) spells = spells.0.1
spells-for s w (command.Post n) [] spells = absurd spells
spells-for s w (command.Claim m n) [] spells = absurd spells
spells-for s w (command.Claim m n) (first ∷ []) spells = absurd spells.1
spells-for s w (command.Flush m) [] spells = absurd spells
spells-for s w (command.Collect n) [] spells = absurd spells

all-more : (P : Cmd → Type 0) (c : Cmd) (commands : List Cmd) → P c → All P commands → All P (c ∷ commands)
all-more P c commands first rest = each
  where
    each : (k : ℕ) (d : Cmd) → k < suc (length commands) → P (get_or (c ∷ commands) k d)
    each zero d below = first
    each (suc k) d below = rest k d (omega (arith, below))

-- each command of a script is for parties that there are
each-for : (s w : ℕ) (before : List Cmd) (lines : List Numbered) (commands : List Cmd)
    → SpellBehind (λ b. SpellsCommand s w) before lines commands → All (IsFor s w) commands
each-for s w before lines [] spells = λ k d below. absurd (omega arith)
each-for s w before [] (c ∷ commands) spells = absurd spells
each-for s w before (line ∷ lines) (c ∷ commands) spells =
    all-more (IsFor s w) c commands (spells-for s w c spells.0.texts spells.0.numbers_are) (each-for s w (before ++ c ∷ []) lines commands spells.1)

pub script-for : (s w : ℕ) (lines : List Numbered) (commands : List Cmd) → SpellScript s w lines commands → All (IsFor s w) commands
script-for s w lines commands spells = each-for s w [] lines commands spells
