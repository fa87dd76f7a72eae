-- Three relations that one outcome tells apart, and answers that are right by them.
use Rattle.std.proofs.Common.{◌≡◌, ◌⊎◌, ◌∙◌, inl, inr, ap, sym, subst, refl, ℕ, Result, Ok, Err}
use Rattle.std.specs.Prelude.{IfOk}
use Rattle.mbj_text.specs.declared.fault.TextFault.{TextFault}
use Rattle.mbj_text.specs.declared.fault.TextFault.TheVariants as text_fault
use Rattle.mbj_text.specs.Answer.{IsOkOnly, IsErrOnly, ExactlyOne, AtMostOne, IsOneOf}
use Rattle.mbj_text.specs.Inside.Reading.{Answers}

-- each relation says what the outcome is
pub record Tells {V : Type 0} (Good : V → Type 0) (Bad : ℕ → ℕ → Type 0) (Over : ℕ → Type 0) (outcome : Result V TextFault) : Type 0 where
  pub good : (v : V) → Good v → outcome ≡ Ok v
  pub bad : (line field : ℕ) → Bad line field → outcome ≡ Err (text_fault.Line line field)
  pub over : (line : ℕ) → Over line → outcome ≡ Err (text_fault.Limit line)

-- one of the three holds
abbrev pub Fate : {V : Type 0} → (V → Type 0) → (ℕ → ℕ → Type 0) → (ℕ → Type 0) → Type 0
Fate {V} Good Bad Over = ((v : V) × Good v) ⊎ (((line : ℕ) × (field : ℕ) × Bad line field) ⊎ ((line : ℕ) × Over line))

module _ {V : Type 0} (Good : V → Type 0) (Bad : ℕ → ℕ → Type 0) (Over : ℕ → Type 0) (outcome : Result V TextFault) (tells : Tells Good Bad Over outcome) where
  -- ---- the relations exclude one another

  -- what is good isn't bad
  pub good_not_bad : (v : V) (line field : ℕ) → Good v → Bad line field → ⊥
  good_not_bad v line field a b = let both = sym (tells.good v a) ∙ tells.bad line field b in cc

  -- what is good isn't too long
  pub good_not_over : (v : V) (line : ℕ) → Good v → Over line → ⊥
  good_not_over v line a b = let both = sym (tells.good v a) ∙ tells.over line b in cc

  -- what is bad isn't too long
  pub bad_not_over : (line field at : ℕ) → Bad line field → Over at → ⊥
  bad_not_over line field at a b = let both = sym (tells.bad line field a) ∙ tells.over at b in cc

  -- it is good in one way
  pub good_once : AtMostOne Good
  good_once v w a b = let both = sym (tells.good v a) ∙ tells.good w b in cc

  -- it has one first fault
  pub bad_once : AtMostOne (λ (at : ℕ × ℕ). Bad at.0 at.1)
  bad_once (line, field) (line', field') a b =
      let both = sym (tells.bad line field a) ∙ tells.bad line' field' b in
      let faults : text_fault.Line line field ≡ text_fault.Line line' field' = cc in
      let lines : line ≡ line' = cc in
      let fields : field ≡ field' = cc in
      cc (lines, fields)

  -- it has one line that is one too many
  pub over_once : AtMostOne Over
  over_once line line' a b = let both = sym (tells.over line a) ∙ tells.over line' b in cc

  -- ---- exactly one holds

  -- if one of them holds, the other two don't
  one_only : Fate Good Bad Over → ExactlyOne ((v : V) × Good v) ((line : ℕ) × (field : ℕ) × Bad line field) ((line : ℕ) × Over line)
  one_only (inl g) = inl (g, λ b. good_not_bad g.0 b.0 b.1 g.1 b.2, λ o. good_not_over g.0 o.0 g.1 o.1)
  one_only (inr (inl b)) = inr (inl (λ g. good_not_bad g.0 b.0 b.1 g.1 b.2, b, λ o. bad_not_over b.0 b.1 o.0 b.2 o.1))
  one_only (inr (inr o)) = inr (inr (λ g. good_not_over g.0 o.0 g.1 o.1, λ b. bad_not_over b.0 b.1 o.0 b.2 o.1, o))

  -- and it does in one way
  pub is_one : Fate Good Bad Over → IsOneOf Good Bad Over
  is_one fate = record { one = one_only fate; good_once = good_once; bad_once = bad_once; over_once = over_once }

-- ---- each answer has its relation

module _ {A : Type 0} (Good : A → Type 0) (Bad : ℕ → ℕ → Type 0) (Over : ℕ → Type 0) where
  -- what is read
  pub ok_is_good : (r : Result A TextFault) → Answers Good Bad Over r → IfOk r Good
  ok_is_good (Ok v) a = a
  ok_is_good (Err e) a = tt

  -- a bad line
  pub line_is_bad : (r : Result A TextFault) → Answers Good Bad Over r → (line field : ℕ) → r ≡ Err (text_fault.Line line field) → Bad line field
  line_is_bad r a line field is = let P : Result A TextFault → Type 0 = λ r. Answers Good Bad Over r in subst P is a

  -- the limit
  pub limit_is_over : (r : Result A TextFault) → Answers Good Bad Over r → (line : ℕ) → r ≡ Err (text_fault.Limit line) → Over line
  limit_is_over r a line is = let P : Result A TextFault → Type 0 = λ r. Answers Good Bad Over r in subst P is a

-- ---- each relation has its answer, where a value is seen as what it stands for

module _ {A V : Type 0} (view : A → V) (Good : V → Type 0) (Bad : ℕ → ℕ → Type 0) (Over : ℕ → Type 0) (outcome : Result V TextFault) (tells : Tells Good Bad Over outcome) where
  -- the answer if it is good
  pub good_only : (r : Result A TextFault) → Answers (λ x. Good (view x)) Bad Over r → (v : V) → Good v → IsOkOnly r (λ x. view x ≡ v)
  good_only (Ok x) a v s = good_once Good Bad Over outcome tells (view x) v a s
  good_only (Err (text_fault.Line line field)) a v s = absurd (good_not_bad Good Bad Over outcome tells v line field s a)
  good_only (Err (text_fault.Limit line)) a v s = absurd (good_not_over Good Bad Over outcome tells v line s a)
  good_only (Err text_fault.Memory) a v s = refl

  -- the answer if it is bad
  pub bad_only : (r : Result A TextFault) → Answers (λ x. Good (view x)) Bad Over r → (line field : ℕ) → Bad line field → IsErrOnly r (text_fault.Line line field)
  bad_only (Ok x) a line field b = absurd (good_not_bad Good Bad Over outcome tells (view x) line field a b)
  bad_only (Err (text_fault.Line line' field')) a line field b =
      inl (ap (λ (at : ℕ × ℕ). Err (text_fault.Line at.0 at.1)) (bad_once Good Bad Over outcome tells (line', field') (line, field) a b))
  bad_only (Err (text_fault.Limit line')) a line field b = absurd (bad_not_over Good Bad Over outcome tells line field line' b a)
  bad_only (Err text_fault.Memory) a line field b = inr refl

  -- the answer if it is too long
  pub over_only : (r : Result A TextFault) → Answers (λ x. Good (view x)) Bad Over r → (line : ℕ) → Over line → IsErrOnly r (text_fault.Limit line)
  over_only (Ok x) a line o = absurd (good_not_over Good Bad Over outcome tells (view x) line a o)
  over_only (Err (text_fault.Line line' field')) a line o = absurd (bad_not_over Good Bad Over outcome tells line' field' line a o)
  over_only (Err (text_fault.Limit line')) a line o = let same = over_once Good Bad Over outcome tells line' line a o in inl (cc same)
  over_only (Err text_fault.Memory) a line o = inr refl
