-- Bytes and numbers are read exactly as they are spelled.
use Rattle.std.proofs.Common.{◌≡◌, ◌∙◌, ◌==◌, ◌&&◌, ◌<◌, ◌≤◌, ◌+◌, ◌-◌, ◌*◌, ◌^◌, inl, inr, ap, sym, refl, ℕ, zero, suc, Bool, true, false, cond, List, [], ◌∷◌, Option, Some, None, Result, Ok, Err, length, arith, rules, codes}
use Rattle.std.specs.Prelude.{decimal, slice_index, nat_lt}
use Rattle.std.specs.Char.{is_ascii_digit}
use Rattle.std.specs.Str.{bytes_eq, all_ascii_digits}
use Rattle.std.specs.Option.{option_and_then}
use Rattle.std.specs.Result.{result_ok}
use Rattle.std.proofs.lemmas.Slice.Eq.{bytes_eq-Decides}
use Rattle.std.proofs.lemmas.Bool.{eqb-true, eqb-false}
use Rattle.std.proofs.lemmas.Bool.Decides.{nat_tests}
use Rattle.std.proofs.lemmas.Str.Parse.{IsNumeralModel, numerals_by_fold, digits_value_short}
use Rattle.std.proofs.lemmas.Fmt.{decimal-digits_value, digits_value-decimal, digits_decimal, decimal_nonempty, length-decimal-le, first_decimal}
use Rattle.hex.specs.Hex.{decode_of}
use Rattle.hex.specs.declared.error.FromHexError.{FromHexError}
use Rattle.mbj_types.specs.Aes.{is_key_size}
use Rattle.mbj_text.specs.Spelling.{SpellsBytes, SpellsNumber, SpellsKey}
use Rattle.mbj_text.specs.Inside.Reading.{bytes_of, key_of, spelled_number, below_of, digits_after, is_number_sized}

-- ---- bytes

-- bytes that are read are spelled
pub bytes_read : (t bytes : List ℕ) → bytes_of t ≡ Some bytes → SpellsBytes t bytes
bytes_read t bytes h = go (bytes_eq t (codes "-")) (length t == 0) (decode_of t) refl (bytes_eq-Decides t (codes "-")).0 (λ e. omega (arith, eqb-false (length t) 0 e)) h
  where
    go : (x y : Bool) (r : Result (List ℕ) FromHexError) → decode_of t ≡ r → (x ≡ true → t ≡ codes "-") → (y ≡ false → 0 < length t)
        → cond x (Some []) (cond y None (result_ok r)) ≡ Some bytes → SpellsBytes t bytes
    go true y r e p q h = let same : ◌≡◌ {A = List ℕ} bytes [] = cc in inl (p refl, same)
    go false true r e p q h = cc
    go false false (Ok bs) e p q h = let same : bs ≡ bytes = cc in inr (q refl, e ∙ ap (λ (l : List ℕ). Ok l) same)
    go false false (Err x) e p q h = cc

-- bytes that are spelled are read
pub bytes_back : (t bytes : List ℕ) → SpellsBytes t bytes → bytes_of t ≡ Some bytes
bytes_back t bytes (inl bar) = ap bytes_of bar.0 ∙ ap (λ (l : List ℕ). Some l) (sym bar.1)
bytes_back t bytes (inr hex) = go (bytes_eq t (codes "-")) (length t == 0) (bytes_eq-Decides t (codes "-")).0 (λ e. omega (arith, eqb-true (length t) 0 e, hex.0))
  where
    go : (x y : Bool) → (x ≡ true → t ≡ codes "-") → (y ≡ true → ⊥) → cond x (Some []) (cond y None (result_ok (decode_of t))) ≡ Some bytes
    go true y p q = let bad : decode_of (codes "-") ≡ Ok bytes = ap decode_of (sym (p refl)) ∙ hex.1 in cc
    go false true p q = absurd (q refl)
    go false false p q = ap result_ok hex.1

-- ---- keys of sessions

-- the test of the size
abbrev sized_key : Bool → List ℕ → Option (List ℕ)
sized_key b key = cond b (Some key) None

-- a key that is read is spelled
pub key_read : (t key : List ℕ) → key_of t ≡ Some key → SpellsKey t key
key_read t key h = go (bytes_of t) refl h
  where
    by_size : (k : List ℕ) (b : Bool) → is_key_size (length k) ≡ b → bytes_of t ≡ Some k → sized_key b k ≡ Some key → SpellsKey t key
    by_size k true size is q =
        let same : k ≡ key = cc in
        (bytes_read t key (is ∙ ap (λ (l : List ℕ). Some l) same), ap (λ (l : List ℕ). is_key_size (length l)) (sym same) ∙ size)
    by_size k false size is q = cc

    go : (o : Option (List ℕ)) → bytes_of t ≡ o → option_and_then (λ k. sized_key (is_key_size (length k)) k) o ≡ Some key → SpellsKey t key
    go None is q = cc
    go (Some k) is q = by_size k (is_key_size (length k)) refl is q

-- a key that is spelled is read
pub key_back : (t key : List ℕ) → SpellsKey t key → key_of t ≡ Some key
key_back t key s =
    ap (option_and_then (λ k. sized_key (is_key_size (length k)) k)) (bytes_back t key s.0) ∙ ap (λ b. sized_key b key) s.1

-- ---- numbers

-- the number that digits write behind n
abbrev pub value_after : ℕ → List ℕ → ℕ
value_after n [] = n
value_after n (x ∷ xs) = value_after (n * 10 + (x - 48)) xs

-- these are digits and their value
own : IsNumeralModel (λ ds. all_ascii_digits ds ≡ true) (value_after 0)
own = numerals_by_fold _ (search rules) value_after (search rules)

-- the reader of digits gives their value, and nothing at another byte
digits_are : (n : ℕ) (xs : List ℕ) → digits_after n xs ≡ cond (all_ascii_digits xs) (Some (value_after n xs)) None
digits_are n [] = refl
digits_are n (x ∷ xs) = elim (is_ascii_digit x) as (λ b. cond b (digits_after (n * 10 + (x - 48)) xs) None ≡ cond (b && all_ascii_digits xs) (Some (value_after (n * 10 + (x - 48)) xs)) None) [
  | true ↦ digits_are (n * 10 + (x - 48)) xs
  | false ↦ refl
]

-- what the test of length and first byte tells
sized : (t : List ℕ) → is_number_sized t ≡ true → (0 < length t) × (length t ≤ 5) × (slice_index t 0 ≡ 48 → length t ≤ 1)
sized t h = grind (arith, nat_tests)

-- and what it is told by
is_sized : (t : List ℕ) → 0 < length t → length t ≤ 5 → (slice_index t 0 ≡ 48 → length t ≤ 1) → is_number_sized t ≡ true
is_sized t a b c = grind (arith, nat_tests)

-- a number that is read is spelled
pub number_read : (t : List ℕ) (n : ℕ) → spelled_number t ≡ Some n → SpellsNumber t n
number_read t n h = go (is_number_sized t) (all_ascii_digits t) refl refl (ap (λ o. cond (is_number_sized t) o None) (sym (digits_are 0 t)) ∙ h)
  where
    go : (x y : Bool) → is_number_sized t ≡ x → all_ascii_digits t ≡ y → cond x (cond y (Some (value_after 0 t)) None) None ≡ Some n → SpellsNumber t n
    go false y p q h = cc
    go true false p q h = cc
    go true true p q h =
        let same : value_after 0 t ≡ n = cc in
        let shape = sized t p in
        let small : value_after 0 t < 10 ^ 5 = digits_value_short own t 5 q shape.1 in
        let spelled : decimal (value_after 0 t) ≡ t = decimal-digits_value own t q shape.0 (λ e. omega (arith, shape.2 e, shape.0)) (omega (arith, small)) in
        (sym spelled ∙ ap (λ (k : ℕ). decimal k) same, omega (arith, small, same))

-- what decimal writes is read
number_known : (n : ℕ) → n < 10 ^ 5 → spelled_number (decimal n) ≡ Some n
number_known n h =
    let small : n < 2 ^ 64 = omega (arith, h) in
    let inside : is_number_sized (decimal n) ≡ true = is_sized (decimal n) (decimal_nonempty n small) (length-decimal-le 5 n (omega arith) h small) (lead n small) in
    ap (λ b. cond b (digits_after 0 (decimal n)) None) inside ∙ digits_are 0 (decimal n)
    ∙ ap (λ b. cond b (Some (value_after 0 (decimal n))) None) (digits_decimal own n small)
    ∙ ap (λ (k : ℕ). Some k) (digits_value-decimal own n small)
  where
    lead : (n : ℕ) → n < 2 ^ 64 → slice_index (decimal n) 0 ≡ 48 → length (decimal n) ≤ 1
    lead zero h e = length-decimal-le 1 0 (omega arith) (omega arith) h
    lead (suc n) h e = absurd (omega (arith, first_decimal (suc n) (omega arith) h, e))

-- a number that is spelled is read
pub number_back : (t : List ℕ) (n : ℕ) → SpellsNumber t n → spelled_number t ≡ Some n
number_back t n s = ap spelled_number s.0 ∙ number_known n s.1

-- a number below a limit that is read is spelled
pub below_read : (limit : ℕ) (t : List ℕ) (n : ℕ) → below_of limit t ≡ Some n → SpellsNumber t n × (n < limit)
below_read limit t n h = go (spelled_number t) refl h
  where
    in_range : (m : ℕ) (b : Bool) → nat_lt m limit ≡ b → spelled_number t ≡ Some m → cond b (Some m) None ≡ Some n → SpellsNumber t n × (n < limit)
    in_range m true e is q =
        let same : m ≡ n = cc in
        let below : m < limit = grind (arith, nat_tests) in
        (number_read t n (is ∙ ap (λ (k : ℕ). Some k) same), omega (arith, below, same))
    in_range m false e is q = cc

    go : (o : Option ℕ) → spelled_number t ≡ o → option_and_then (λ n. cond (nat_lt n limit) (Some n) None) o ≡ Some n → SpellsNumber t n × (n < limit)
    go None is q = cc
    go (Some m) is q = in_range m (nat_lt m limit) refl is q

-- a number below a limit that is spelled is read
pub below_back : (limit : ℕ) (t : List ℕ) (n : ℕ) → SpellsNumber t n × (n < limit) → below_of limit t ≡ Some n
below_back limit t n s =
    let small : n < limit = s.1 in
    let fits : nat_lt n limit ≡ true = grind (arith, nat_tests) in
    ap (option_and_then (λ n. cond (nat_lt n limit) (Some n) None)) (number_back t n s.0) ∙ ap (λ b. cond b (Some n) None) fits
