-- The lines that are kept and the parts of a replay, one line after the other.
use Rattle.std.proofs.Common.{◌≡◌, ◌∙◌, ◌+◌, ◌∷◌, ℕ, suc, Bool, true, false, not, cond, List, [], take, drop, ap, refl, arith}
use Rattle.std.specs.List.{position_or_len, before_first, after_first}
use Rattle.std.specs.Str.Lines.{strip_carriage_return}
use Rattle.mbj_text.specs.declared.kept_lines.EntriesEnd.{EntriesEnd}
use Rattle.mbj_text.specs.declared.kept_lines.EntriesEnd.TheVariants as entries_end
use Rattle.mbj_text.specs.Inside.Reading.{ends_entries, part_before, part_behind}
use Rattle.mbj_text.specs.Cut.{is_skipped, is_mark, Numbered, kept_lines_from}

-- no line is left
pub none_left : (n : ℕ) → kept_lines_from n [] ≡ []
unfolding kept_lines_from
none_left n = refl

-- a line that is skipped
pub skip : (n : ℕ) (line : List ℕ) (lines : List (List ℕ)) → is_skipped (strip_carriage_return line) ≡ true
    → kept_lines_from n (line ∷ lines) ≡ kept_lines_from (n + 1) lines
unfolding kept_lines_from
skip n line lines h = ap (λ b. cond b (kept_lines_from (n + 1) lines) ((n, strip_carriage_return line) ∷ kept_lines_from (n + 1) lines)) h

-- a line that isn't
pub keep : (n : ℕ) (line : List ℕ) (lines : List (List ℕ)) → is_skipped (strip_carriage_return line) ≡ false
    → kept_lines_from n (line ∷ lines) ≡ (n, strip_carriage_return line) ∷ kept_lines_from (n + 1) lines
unfolding kept_lines_from
keep n line lines h = ap (λ b. cond b (kept_lines_from (n + 1) lines) ((n, strip_carriage_return line) ∷ kept_lines_from (n + 1) lines)) h

-- ---- the parts of a replay

-- what stands before the first that passes, given the test of its first item and how many fail behind it
abbrev before : {A : Type 0} → Bool → ℕ → A → List A → List A
before b k x xs = take (cond (not b) (1 + k) 0) (x ∷ xs)

-- and what stands after it
abbrev after : {A : Type 0} → Bool → ℕ → A → List A → List A
after b k x xs = drop (cond (not b) (1 + k) 0 + 1) (x ∷ xs)

-- the first one passes
first_passes : {A : Type 0} (p : A → Bool) (x : A) (xs : List A) → p x ≡ true → (before_first p (x ∷ xs) ≡ []) × (after_first p (x ∷ xs) ≡ xs)
first_passes p x xs h = (ap (λ b. before b (position_or_len p xs) x xs) h, ap (λ b. after b (position_or_len p xs) x xs) h)

-- the first one fails
first_fails : {A : Type 0} (p : A → Bool) (x : A) (xs : List A) → p x ≡ false
    → (before_first p (x ∷ xs) ≡ x ∷ before_first p xs) × (after_first p (x ∷ xs) ≡ after_first p xs)
first_fails p x xs h =
    let k : ℕ = position_or_len p xs in
    let one : 1 + k ≡ suc k = omega arith in
    let two : 1 + k + 1 ≡ suc (k + 1) = omega arith in
    (ap (λ b. before b k x xs) h ∙ ap (λ n. take n (x ∷ xs)) one, ap (λ b. after b k x xs) h ∙ ap (λ n. drop n (x ∷ xs)) two)

-- no line is left
pub no_part : (end : EntriesEnd) → (part_before end [] ≡ []) × (part_behind end [] ≡ [])
no_part entries_end.File = (refl, refl)
no_part entries_end.Mark = (refl, refl)

-- the session lines and job lines end at this line
pub part_ends : (end : EntriesEnd) (n : ℕ) (line : List ℕ) (lines : List Numbered) → ends_entries end line ≡ true
    → (part_before end ((n, line) ∷ lines) ≡ []) × (part_behind end ((n, line) ∷ lines) ≡ lines)
part_ends entries_end.File n line lines h = cc
part_ends entries_end.Mark n line lines h = first_passes (λ (l : Numbered). is_mark l.1) (n, line) lines h

-- this line is one of them
pub part_goes_on : (end : EntriesEnd) (n : ℕ) (line : List ℕ) (lines : List Numbered) → ends_entries end line ≡ false
    → (part_before end ((n, line) ∷ lines) ≡ (n, line) ∷ part_before end lines) × (part_behind end ((n, line) ∷ lines) ≡ part_behind end lines)
part_goes_on entries_end.File n line lines h = (refl, refl)
part_goes_on entries_end.Mark n line lines h = first_fails (λ (l : Numbered). is_mark l.1) (n, line) lines h
