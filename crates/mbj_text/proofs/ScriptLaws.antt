-- Reading script lines one after the other.
use Rattle.std.proofs.Common.{◌≡◌, ◌⊎◌, ◌++◌, inl, inr, refl, ℕ, List, [], ◌∷◌, Result, Ok, Err}
use Rattle.std.specs.declared.vec.Vec.{Vec}
use Rattle.std.specs.declared.alloc.Global.{Global}
use Rattle.mbj_text.specs.declared.command.Cmd.{Cmd}
use Rattle.mbj_text.specs.declared.fault.LineFault.{LineFault}
use Rattle.mbj_text.specs.declared.fault.LineFault.TheVariants as line_fault
use Rattle.mbj_text.specs.declared.fault.TextFault.{TextFault}
use Rattle.mbj_text.specs.declared.fault.TextFault.TheVariants as text_fault
use Rattle.mbj_text.specs.Cut.{Numbered}
use Rattle.mbj_text.specs.Script.{SpellsCommand, SpellScript, BadScript, IsBadCommand}
use Rattle.mbj_text.specs.Inside.Reading.{Answers, command_of, Fails, fault_at}
use Rattle.mbj_text.proofs.EachLine.{ReadSoFar, none_read, each_read, more_read, stops_next, outcome, good_give, stop_gives}
use Rattle.mbj_text.proofs.CommandLaws.{command_back, command_fault_back, command_fault_read, command_total, command_unlimited}

-- ---- line after line, for this many submitters and workers

-- the script lines before those that are left spell the commands
abbrev pub ScriptSoFar : ℕ → ℕ → List Numbered → List Numbered → List Cmd → Type 0
ScriptSoFar s w all left commands = ReadSoFar (λ before. SpellsCommand s w) all left commands

-- the answer is right for these lines
abbrev pub AnswersScript : ℕ → ℕ → List Numbered → Result (Vec Cmd Global) TextFault → Type 0
AnswersScript s w all r = Answers (λ v. SpellScript s w all v.items) (BadScript s w all) (λ line. ⊥) r

module _ (s w : ℕ) (all left rest : List Numbered) (commands : List Cmd) (n : ℕ) (text : List ℕ) (so : ScriptSoFar s w all left commands)
    (next : left ≡ (n, text) ∷ rest) where
  -- one more line is good
  pub script_one_more : (c : Cmd) → SpellsCommand s w text c → ScriptSoFar s w all rest (commands ++ c ∷ [])
  script_one_more c spelled = more_read (λ before. SpellsCommand s w) all left commands so rest n text next c spelled

  -- the next line is bad
  script_next_is_bad : (f : ℕ) → IsBadCommand s w text f → BadScript s w all n f
  script_next_is_bad f bad = stops_next (λ before. SpellsCommand s w) all left commands so rest n text next _ bad

  -- the next line's fault is that of the script
  pub script_stops : (fault : LineFault) → Fails fault (command_of s w text) → AnswersScript s w all (Err (fault_at n fault))
  script_stops (line_fault.Field f) fails = script_next_is_bad f (command_fault_read s w text f fails)
  script_stops line_fault.Limit fails = command_unlimited s w text fails
  script_stops line_fault.Memory fails = tt

-- ---- what lines spell is told by what they give

-- the outcome of script lines
pub script_outcome : ℕ → ℕ → List Numbered → Result (List Cmd) TextFault
script_outcome s w lines = outcome (λ before. command_of s w) [] lines

-- good lines give their commands
pub script_gives : (s w : ℕ) (lines : List Numbered) (commands : List Cmd) → SpellScript s w lines commands → script_outcome s w lines ≡ Ok commands
unfolding script_outcome
script_gives s w lines commands good =
    good_give (λ before. command_of s w) (λ before. SpellsCommand s w) (λ before. command_back s w) lines commands good

-- a bad line gives its fault
pub bad_script_gives : (s w : ℕ) (lines : List Numbered) (line f : ℕ) → BadScript s w lines line f → script_outcome s w lines ≡ Err (text_fault.Line line f)
unfolding script_outcome
bad_script_gives s w lines line f b =
    stop_gives (λ before. command_of s w) (λ before. SpellsCommand s w) (λ before. command_back s w) _ lines line b (line_fault.Field f)
    (command_fault_back s w b.text f b.why)

-- ---- one of the two holds

-- what script lines are
abbrev pub ScriptFate : ℕ → ℕ → List Numbered → Type 0
ScriptFate s w all = ((commands : List Cmd) × SpellScript s w all commands) ⊎ ((line : ℕ) × (field : ℕ) × BadScript s w all line field)

-- reading on from the lines that are left tells
script_fate_from : (s w : ℕ) (all left : List Numbered) (commands : List Cmd) → ScriptSoFar s w all left commands → ScriptFate s w all
script_fate_from s w all [] commands so = inl (commands, each_read (λ before. SpellsCommand s w) all [] commands so refl)
script_fate_from s w all ((n, text) ∷ rest) commands so = elim (command_total s w text) [
  | inl good ↦ script_fate_from s w all rest (commands ++ good.0 ∷ []) (script_one_more s w all ((n, text) ∷ rest) rest commands n text so refl good.0 good.1)
  | inr bad ↦ inr (n, bad.0, script_next_is_bad s w all ((n, text) ∷ rest) rest commands n text so refl bad.0 bad.1)
]

-- one of the two holds
pub script_fate : (s w : ℕ) (lines : List Numbered) → ScriptFate s w lines
script_fate s w lines = script_fate_from s w lines lines [] (none_read (λ before. SpellsCommand s w) lines)
