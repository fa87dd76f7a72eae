-- What making and filling answer, with memory or without.
use Rattle.std.specs.Prelude.{◌≡◌, Option, None, Some, Result, Ok, Err}
use Rattle.mbj_c.specs.declared.refusal.Refusal.{Refusal}
use Rattle.mbj_c.specs.declared.refusal.Refusal.TheVariants as refusal

-- a call returns and leaves what it should; if it would be done, memory may run out, and then nothing changes
abbrev pub IsDoneAs : {A : Type 0} → Result Unit Refusal → A → A → Result Unit Refusal → A → Type 0
IsDoneAs (Ok u) next before (Ok v) after = after ≡ next
IsDoneAs (Ok u) next before (Err r) after = (r ≡ refusal.Memory) × (after ≡ before)
IsDoneAs (Err q) next before answer after = (answer ≡ Err q) × (after ≡ next)

abbrev pub IsDone : {A : Type 0} → Result Unit Refusal × A → A → Result Unit Refusal → A → Type 0
IsDone want before answer after = IsDoneAs want.0 want.1 before answer after

-- a call that something speaks against is refused for it; another one is done, unless memory runs out
abbrev pub IsAnswerTo : {A : Type 0} → Option Refusal → Result A Refusal → Type 0
IsAnswerTo (Some r) answer = answer ≡ Err r
IsAnswerTo None (Ok x) = Unit {0}
IsAnswerTo None (Err r) = r ≡ refusal.Memory
