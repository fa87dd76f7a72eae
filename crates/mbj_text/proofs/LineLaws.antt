-- A field is read exactly where it has its form, and a line if each of its fields has.
use Rattle.std.proofs.Common.{◌≡◌, ◌⊎◌, ◌∙◌, ◌+◌, inl, inr, ap, sym, refl, ℕ, suc, Bool, cond, List, [], ◌∷◌, Option, Some, None, Ok, length, arith, eq-eqb}
use Rattle.std.specs.Option.{option_map_or}
use Rattle.std.proofs.lemmas.Bool.{ne_eqb}
use Rattle.std.proofs.lemmas.Bool.Decides.{eqb_tells}
use Rattle.mbj_types.specs.declared.job.Job.{Job}
use Rattle.mbj_text.specs.Spelling.{Spells, Spelled, SpellsFields, Value, Values, values, HasForm, Form, CipherWord, DirWord, OrderWord, AuthWord, Hex, Key, CipherKey, Number, Below, forms, fields_of, IsFirstBad, HasFault, IsBadLine}
use Rattle.mbj_text.specs.Inside.Reading.{◌>>=◌, Cursor, Read, bad_field, value_of, fields_from, all_from, job_with, job_of}
use Rattle.mbj_text.proofs.WordLaws.{cipher_read, cipher_back, dir_read, dir_back, order_read, order_back, auth_read, auth_back}
use Rattle.mbj_text.proofs.ValueLaws.{bytes_read, bytes_back, key_read, key_back, number_read, number_back, below_read, below_back}
use Rattle.mbj_text.proofs.KeyLaws.{cipher_key_read, cipher_key_back}

-- ---- fields

-- what is read is spelled
pub value_read : (form : Form) (t : List ℕ) (v : Value form) → value_of form t ≡ Some v → Spelled form t v
value_read CipherWord t v h = cipher_read t v h
value_read DirWord t v h = dir_read t v h
value_read OrderWord t v h = order_read t v h
value_read AuthWord t v h = auth_read t v h
value_read Hex t v h = bytes_read t v h
value_read Key t v h = key_read t v h
value_read (CipherKey keys) t v h = cipher_key_read keys t v h
value_read Number t v h = number_read t v h
value_read (Below limit) t v h = below_read limit t v h

-- what is spelled is read
pub value_back : (form : Form) (t : List ℕ) (v : Value form) → Spelled form t v → value_of form t ≡ Some v
value_back CipherWord t v s = cipher_back t v s
value_back DirWord t v s = dir_back t v s
value_back OrderWord t v s = order_back t v s
value_back AuthWord t v s = auth_back t v s
value_back Hex t v s = bytes_back t v s
value_back Key t v s = key_back t v s
value_back (CipherKey keys) t v s = cipher_key_back keys t v s
value_back Number t v s = number_back t v s
value_back (Below limit) t v s = below_back limit t v s

-- a field that isn't of its form is not read
value_unread : (form : Form) (t : List ℕ) → ¬ (HasForm form t) → value_of form t ≡ None
value_unread form t h = go (value_of form t) (λ v e. h (v, value_read form t v e))
  where
    go : (r : Option (Value form)) → ((v : Value form) → r ≡ Some v → ⊥) → r ≡ None
    go None not = refl
    go (Some v) not = absurd (not v refl)

-- ---- the fields of a line

-- one field, and then the others
abbrev step : {A : Type 0} (n : ℕ) (form : Form) (rest : List Form) (texts : List (List ℕ)) → (Values (form ∷ rest) → Read A) → Option (Value form) → Read A
step n form rest texts next o =
    option_map_or (λ x. Ok (x, record { taken = n + 1; left = texts })) o (bad_field (n + 1)) >>= λ (x : Value form × Cursor). fields_from rest x.1 (λ vs. next (x.0, vs))

-- each field spells its value: the values are read
fields_back : {A : Type 0} (n : ℕ) (fs : List Form) (texts : List (List ℕ)) (vs : Values fs) (next : Values fs → Read A)
    → SpellsFields fs texts vs → fields_from fs (record { taken = n; left = texts }) next ≡ next vs
fields_back n [] [] vs next s = refl
fields_back n [] (t ∷ ts) vs next s = absurd s
fields_back n (form ∷ rest) [] vs next s = absurd s
fields_back n (form ∷ rest) (t ∷ ts) vs next s =
    ap (step n form rest ts next) (value_back form t vs.0 s.0)
    ∙ fields_back (n + 1) rest ts vs.1 (λ us. next (vs.0, us)) s.1

-- a field isn't of its form: the first such is the fault
first_bad_back : {A : Type 0} (n : ℕ) (fs : List Form) (texts : List (List ℕ)) (f : ℕ) (next : Values fs → Read A)
    → IsFirstBad (n + 1) fs texts f → fields_from fs (record { taken = n; left = texts }) next ≡ bad_field f
first_bad_back n [] texts f next bad = absurd bad
first_bad_back n (form ∷ rest) [] f next bad = absurd bad
first_bad_back n (form ∷ rest) (t ∷ ts) f next (inl bad) =
    ap (step n form rest ts next) (value_unread form t bad.1) ∙ ap (λ (k : ℕ). bad_field k) (sym bad.0)
first_bad_back n (form ∷ rest) (t ∷ ts) f next (inr (good, bad)) =
    ap (step n form rest ts next) (value_back form t good.0 good.1)
    ∙ first_bad_back (n + 1) rest ts f (λ us. next (good.0, us)) bad

-- one of the two holds
fields_total : (n : ℕ) (fs : List Form) (texts : List (List ℕ)) → length texts ≡ length fs
    → ((vs : Values fs) × SpellsFields fs texts vs) ⊎ ((f : ℕ) × IsFirstBad n fs texts f)
fields_total n [] [] h = inl (tt, tt)
fields_total n [] (t ∷ ts) h = absurd (omega arith)
fields_total n (form ∷ rest) [] h = absurd (omega arith)
fields_total n (form ∷ rest) (t ∷ ts) h = go (value_of form t) refl (fields_total (n + 1) rest ts (omega (arith, h)))
  where
    go : (o : Option (Value form)) → value_of form t ≡ o → ((vs : Values rest) × SpellsFields rest ts vs) ⊎ ((f : ℕ) × IsFirstBad (n + 1) rest ts f)
        → ((vs : Values (form ∷ rest)) × SpellsFields (form ∷ rest) (t ∷ ts) vs) ⊎ ((f : ℕ) × IsFirstBad n (form ∷ rest) (t ∷ ts) f)
    go None e more = inr (n, inl (refl, λ has. let bad = sym e ∙ value_back form t has.0 has.1 in cc))
    go (Some v) e (inl good) = inl ((v, good.0), (value_read form t v e, good.1))
    go (Some v) e (inr bad) = inr (bad.0, inr ((v, value_read form t v e), bad.1))

-- a spelled line has a field for each form
spelled_count : (fs : List Form) (texts : List (List ℕ)) (vs : Values fs) → SpellsFields fs texts vs → length texts ≡ length fs
spelled_count [] [] vs s = refl
spelled_count [] (t ∷ ts) vs s = absurd s
spelled_count (form ∷ rest) [] vs s = absurd s
spelled_count (form ∷ rest) (t ∷ ts) vs s = ap suc (spelled_count rest ts vs.1 s.1)

-- ---- all fields that are left

-- what they are read as, given the test of their number
abbrev counted : {A : Type 0} → Bool → (fs : List Form) → Cursor → (Values fs → A) → Read A
counted b fs cursor make = cond b (fields_from fs cursor (λ vs. Ok (make vs))) (bad_field 0)

-- what is spelled is read
pub all_back : {A : Type 0} (n : ℕ) (fs : List Form) (texts : List (List ℕ)) (vs : Values fs) (make : Values fs → A)
    → SpellsFields fs texts vs → all_from fs (record { taken = n; left = texts }) make ≡ Ok (make vs)
all_back n fs texts vs make s =
    ap (λ b. counted b fs (record { taken = n; left = texts }) make) (eq-eqb (length texts) (length fs) (spelled_count fs texts vs s))
    ∙ fields_back n fs texts vs (λ vs. Ok (make vs)) s

-- a fault is found
pub all_fault_back : {A : Type 0} (n : ℕ) (fs : List Form) (texts : List (List ℕ)) (f : ℕ) (make : Values fs → A)
    → HasFault (n + 1) fs texts f → all_from fs (record { taken = n; left = texts }) make ≡ bad_field f
all_fault_back n fs texts f make (inl count) =
    ap (λ b. counted b fs (record { taken = n; left = texts }) make) (ne_eqb (length texts) (length fs) count.1) ∙ ap (λ (k : ℕ). bad_field k) (sym count.0)
all_fault_back n fs texts f make (inr (count, bad)) =
    ap (λ b. counted b fs (record { taken = n; left = texts }) make) (eq-eqb (length texts) (length fs) count)
    ∙ first_bad_back n fs texts f (λ vs. Ok (make vs)) bad

-- one of the two holds
pub all_total : (n : ℕ) (fs : List Form) (texts : List (List ℕ)) → ((vs : Values fs) × SpellsFields fs texts vs) ⊎ ((f : ℕ) × HasFault n fs texts f)
all_total n fs texts = elim (eqb_tells (length texts) (length fs)) [
  | inl same ↦ elim (fields_total n fs texts same.1) [
    | inl good ↦ inl good
    | inr bad ↦ inr (bad.0, inr (same.1, bad.1))
  ]
  | inr other ↦ inr (0, inl (refl, other.1))
]

-- ---- the line, behind sessions with these keys

-- what is spelled is read
pub job_back : (keys : List (List ℕ)) (line : List ℕ) (j : Job) → Spells keys line j → job_of keys line ≡ Ok j
unfolding job_of
job_back keys line j s = all_back 0 (forms keys) (fields_of line) (values keys j) job_with s

-- a fault is found
pub fault_back : (keys : List (List ℕ)) (line : List ℕ) (f : ℕ) → IsBadLine keys line f → job_of keys line ≡ bad_field f
unfolding job_of
fault_back keys line f bad = all_fault_back 0 (forms keys) (fields_of line) f job_with bad

-- one of the two holds
pub line_total : (keys : List (List ℕ)) (line : List ℕ) → ((j : Job) × Spells keys line j) ⊎ ((f : ℕ) × IsBadLine keys line f)
line_total keys line = elim (all_total 1 (forms keys) (fields_of line)) [
  | inl good ↦ inl (job_with good.0, good.1)
  | inr bad ↦ inr bad
]
