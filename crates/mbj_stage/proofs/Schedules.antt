-- The schedule of a job's key, and where it is at hand.
use Rattle.std.proofs.Common.{◌≡◌, ◌≢◌, ℕ, List, [], ◌∷◌, drop, true, false, Option, Some, None, is_some, IfSome, refl, ap, ◌∙◌}
use Rattle.std.proofs.Math.Path.{fun_ext}
use Rattle.mbj_types.specs.declared.job.Job.{Job}
use Rattle.mbj_types.specs.declared.job.Cipher.{Cipher}
use Rattle.mbj_types.specs.declared.job.Cipher.TheVariants as cipher
use Rattle.mbj_types.specs.declared.reason.Reason.{Reason}
use Rattle.mbj_types.specs.Aes.{aes, aes_inverse, encipher, decipher}
use Rattle.mbj_aes.proofs.ExpandedKeys.{encipher-key_schedule, decipher-key_schedule}
use Rattle.mbj_keys.specs.Schedules.{IsScheduleOf}
use Rattle.mbj_stage.specs.declared.stage.Step.{Step}
use Rattle.mbj_stage.specs.declared.stage.Stage.TheVariants as stage
use Rattle.mbj_stage.specs.Steps.{steps_by}
use Rattle.mbj_stage.specs.Keys.{keeps_schedule}
use Rattle.mbj_stage.specs.Inside.Kept.{IsKeyed, IsNextStep}

-- a schedule enciphers as its key does
pub enciphers : (key w : List ℕ) → IsScheduleOf key w → encipher w ≡ aes key
enciphers key w is = fun_ext (λ b. ap (λ (s : List ℕ). encipher s b) is.expansion ∙ encipher-key_schedule key b)

-- and deciphers
pub deciphers : (key w : List ℕ) → IsScheduleOf key w → decipher w ≡ aes_inverse key
deciphers key w is = fun_ext (λ b. ap (λ (s : List ℕ). decipher s b) is.expansion ∙ decipher-key_schedule key b)

none-later : (left : List Step) → drop 1 left ≢ [] → left ≢ []
none-later [] some is = some refl
none-later (s ∷ left) some is = some (ap (drop 1) is)

-- it is at hand as long as a step is left
pub keyed-later : (j : Job) (left later : List Step) (schedule : Option (List ℕ)) → IsKeyed j left schedule → later ≡ drop 1 left → IsKeyed j later schedule
keyed-later j left later schedule keyed is some needs = keyed (none-later left (λ none. some (is ∙ none))) needs

-- at the start
pub keyed-begun : (reason : Option Reason) (j : Job) (left : List Step) (schedule : Option (List ℕ)) → left ≡ steps_by reason j
    → is_some schedule ≡ keeps_schedule reason j.cipher j.dir → IfSome schedule (IsScheduleOf j.key) → IsKeyed j left schedule
keyed-begun None j left None steps wanted is some needs = let bad : false ≡ true = wanted ∙ needs in cc
keyed-begun None j left (Some schedule) steps wanted is some needs = is
keyed-begun (Some reason) j left schedule steps wanted is some needs = absurd (some steps)

-- if a step is next, one is left
pub next-some : (s : Step) (left : List Step) → IsNextStep s left → left ≢ []
next-some s [] next none = next
next-some s (t ∷ left) next none = cc
