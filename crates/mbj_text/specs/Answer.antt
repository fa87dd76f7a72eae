-- What a reader of files may answer, and that of three relations exactly one holds, in one way.
use Rattle.std.specs.Prelude.{◌≡◌, ◌⊎◌, ℕ, Err, Result, MatchResult}
use Rattle.mbj_text.specs.declared.fault.TextFault.{TextFault}
use Rattle.mbj_text.specs.declared.fault.TextFault.TheVariants as text_fault

-- the answer is Ok with such a value, unless memory ran out
abbrev pub IsOkOnly : {X : Type 0} → Result X TextFault → (X → Type 0) → Type 0
IsOkOnly r P = MatchResult r P (λ e. e ≡ text_fault.Memory)

-- the answer is this fault, unless memory ran out
abbrev pub IsErrOnly : {X : Type 0} → Result X TextFault → TextFault → Type 0
IsErrOnly r fault = (r ≡ Err fault) ⊎ (r ≡ Err text_fault.Memory)

-- one of the three holds, and the others don't
abbrev pub ExactlyOne : Type 0 → Type 0 → Type 0 → Type 0
ExactlyOne A B C =
    (A × ¬ B × ¬ C)
    ⊎ ((¬ A × B × ¬ C)
    ⊎ (¬ A × ¬ B × C))

-- it holds of at most one thing
abbrev pub AtMostOne : {X : Type 0} → (X → Type 0) → Type 0
AtMostOne {X} Holds = (x y : X) → Holds x → Holds y → x ≡ y

-- something is good, or a field of a line is bad, or a line is over the limit: exactly one of these, and in one way
pub record IsOneOf {A : Type 0} (Good : A → Type 0) (Bad : ℕ → ℕ → Type 0) (Over : ℕ → Type 0) : Type 0 where
  pub one : ExactlyOne ((x : A) × Good x) ((line : ℕ) × (field : ℕ) × Bad line field) ((line : ℕ) × Over line)
  pub good_once : AtMostOne Good
  pub bad_once : AtMostOne (λ (at : ℕ × ℕ). Bad at.0 at.1)
  pub over_once : AtMostOne Over
