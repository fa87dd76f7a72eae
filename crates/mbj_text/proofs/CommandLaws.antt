-- A script line is read exactly as it is spelled.
use Rattle.std.proofs.Common.{◌≡◌, ◌⊎◌, ◌∙◌, ◌==◌, inl, inr, ap, sym, subst, refl, ℕ, List, [], ◌∷◌, Option, Some, None, Ok, Err, length, arith}
use Rattle.std.specs.Option.{option_map_or}
use Rattle.std.proofs.lemmas.List.Splits.{length-slice_split}
use Rattle.mbj_text.specs.declared.command.Cmd.{Cmd}
use Rattle.mbj_text.specs.declared.command.Cmd.TheVariants as command
use Rattle.mbj_text.specs.declared.command.Verb.{Verb}
use Rattle.mbj_text.specs.declared.command.Verb.TheVariants as verb
use Rattle.mbj_text.specs.declared.fault.LineFault.TheVariants as line_fault
use Rattle.mbj_text.specs.Cut.{cut}
use Rattle.mbj_text.specs.Words.{verb_word}
use Rattle.mbj_text.specs.Spelling.{Values, SpellsFields, fields_of}
use Rattle.mbj_text.specs.Script.{number_forms, numbers, verb_of_command, SpellsCommand, HasVerb, IsBadCommand}
use Rattle.mbj_text.specs.Inside.Reading.{◌>>=◌, Cursor, Read, bad_field, all_from, next_from, verb_of, command_with, command_of}
use Rattle.mbj_text.proofs.WordLaws.{verb_read, verb_back}
use Rattle.mbj_text.proofs.LineLaws.{all_back, all_fault_back, all_total}

-- a line has a first field
cut_some : (m : ℕ) (line : List ℕ) → cut m line ≡ [] → ⊥
unfolding cut
cut_some m line none = let size = length-slice_split (λ b. b == m) line in omega (arith, size, ap length none)

-- ---- the numbers behind a verb

-- a command is made of its verb and its numbers
made_of : (s w : ℕ) (c : Cmd) → command_with s w (verb_of_command c) (numbers s w c) ≡ c
made_of s w (command.Post submitter) = refl
made_of s w (command.Claim worker submitter) = refl
made_of s w (command.Flush worker) = refl
made_of s w (command.Collect submitter) = refl

-- a line whose numbers are spelled spells the command
spelled : (s w : ℕ) (line : List ℕ) (v : Verb) (texts : List (List ℕ)) (vs : Values (number_forms s w v))
    → fields_of line ≡ verb_word v ∷ texts → SpellsFields (number_forms s w v) texts vs → SpellsCommand s w line (command_with s w v vs)
spelled s w line verb.Post texts vs is good = record { texts = texts; fields = is; numbers_are = good }
spelled s w line verb.Claim texts vs is good = record { texts = texts; fields = is; numbers_are = good }
spelled s w line verb.Flush texts vs is good = record { texts = texts; fields = is; numbers_are = good }
spelled s w line verb.Collect texts vs is good = record { texts = texts; fields = is; numbers_are = good }

-- ---- the line

-- what a line with these fields is read as
abbrev read_fields : ℕ → ℕ → List (List ℕ) → Read Cmd
read_fields s w texts =
    next_from verb_of 0 texts >>= λ (x : Verb × Cursor). all_from (number_forms s w x.0) x.1 (command_with s w x.0)

-- behind the first field, given what it is read as
abbrev read_behind : ℕ → ℕ → List (List ℕ) → Option Verb → Read Cmd
read_behind s w texts o =
    option_map_or (λ v. Ok (v, record { taken = 1; left = texts })) o (bad_field 1)
    >>= λ (x : Verb × Cursor). all_from (number_forms s w x.0) x.1 (command_with s w x.0)

-- a line that begins with a verb is read on behind it
behind_verb : (s w : ℕ) (line : List ℕ) (v : Verb) (texts : List (List ℕ)) → fields_of line ≡ verb_word v ∷ texts
    → command_of s w line ≡ all_from (number_forms s w v) (record { taken = 1; left = texts }) (command_with s w v)
unfolding command_of
behind_verb s w line v texts is = ap (read_fields s w) is ∙ ap (read_behind s w texts) (verb_back (verb_word v) v refl)

-- what is spelled is read
pub command_back : (s w : ℕ) (line : List ℕ) (c : Cmd) → SpellsCommand s w line c → command_of s w line ≡ Ok c
command_back s w line c h =
    behind_verb s w line (verb_of_command c) h.texts h.fields
    ∙ all_back 1 (number_forms s w (verb_of_command c)) h.texts (numbers s w c) (command_with s w (verb_of_command c)) h.numbers_are
    ∙ ap (λ (c : Cmd). Ok c) (made_of s w c)

-- a first field that is no verb's word is not read
no_verb : (t : List ℕ) → ((v : Verb) → t ≡ verb_word v → ⊥) → verb_of t ≡ None
no_verb t not = go (verb_of t) refl
  where
    go : (o : Option Verb) → verb_of t ≡ o → verb_of t ≡ None
    go None e = e
    go (Some v) e = absurd (not v (verb_read t v e))

-- a line with these fields that begins with no verb is refused at field 1
first_refused : (s w : ℕ) (line : List ℕ) (texts : List (List ℕ)) → fields_of line ≡ texts → ¬ (HasVerb line) → command_of s w line ≡ bad_field 1
unfolding command_of
first_refused s w line [] is not = absurd (cut_some _ line is)
first_refused s w line (t ∷ ts) is not =
    let none : verb_of t ≡ None = no_verb t (λ v same. not (record { word = v; texts = ts; fields = is ∙ ap (λ (t : List ℕ). t ∷ ts) same })) in
    ap (read_fields s w) is ∙ ap (read_behind s w ts) none

-- a fault is found
pub command_fault_back : (s w : ℕ) (line : List ℕ) (f : ℕ) → IsBadCommand s w line f → command_of s w line ≡ bad_field f
command_fault_back s w line f (inl (first, not)) = first_refused s w line (fields_of line) refl not ∙ ap (λ (k : ℕ). bad_field k) (sym first)
command_fault_back s w line f (inr (begins, fault)) =
    behind_verb s w line begins.word begins.texts begins.fields
    ∙ all_fault_back 1 (number_forms s w begins.word) begins.texts f (command_with s w begins.word) fault

-- what a line is
abbrev CommandFate : ℕ → ℕ → List ℕ → Type 0
CommandFate s w line = ((c : Cmd) × SpellsCommand s w line c) ⊎ ((f : ℕ) × IsBadCommand s w line f)

-- one of the two holds
pub command_total : (s w : ℕ) (line : List ℕ) → CommandFate s w line
command_total s w line = by_fields (fields_of line) refl
  where
    by_verb : (t : List ℕ) (ts : List (List ℕ)) → fields_of line ≡ t ∷ ts → (o : Option Verb) → verb_of t ≡ o → CommandFate s w line
    by_verb t ts is None e = inr (
      1,
      inl (
        refl,
        λ has.
            let heads : t ∷ ts ≡ verb_word has.word ∷ has.texts = sym is ∙ has.fields in
            let same : t ≡ verb_word has.word = cc in
            let found = sym e ∙ verb_back t has.word same in cc,
      ),
    )
    by_verb t ts is (Some v) e =
        let begins : fields_of line ≡ verb_word v ∷ ts = is ∙ ap (λ (t : List ℕ). t ∷ ts) (verb_read t v e) in
        elim (all_total 2 (number_forms s w v) ts) [
          | inl good ↦ inl (command_with s w v good.0, spelled s w line v ts good.0 begins good.1)
          | inr bad ↦ inr (bad.0, inr (record { word = v; texts = ts; fields = begins }, bad.1))
        ]

    by_fields : (texts : List (List ℕ)) → fields_of line ≡ texts → CommandFate s w line
    by_fields [] is = absurd (cut_some _ line is)
    by_fields (t ∷ ts) is = by_verb t ts is (verb_of t) refl

-- what is read is spelled
pub command_read : (s w : ℕ) (line : List ℕ) (c : Cmd) → command_of s w line ≡ Ok c → SpellsCommand s w line c
command_read s w line c h = elim (command_total s w line) [
  | inl good ↦
      let both : ◌≡◌ {A = Read Cmd} (Ok good.0) (Ok c) = sym (command_back s w line good.0 good.1) ∙ h in
      let same : good.0 ≡ c = cc in
      let P : Cmd → Type 0 = λ x. SpellsCommand s w line x in subst P same good.1
  | inr bad ↦ let both = sym (command_fault_back s w line bad.0 bad.1) ∙ h in cc
]

-- a fault that is found is one
pub command_fault_read : (s w : ℕ) (line : List ℕ) (f : ℕ) → command_of s w line ≡ bad_field f → IsBadCommand s w line f
command_fault_read s w line f h = elim (command_total s w line) [
  | inl good ↦ let both = sym (command_back s w line good.0 good.1) ∙ h in cc
  | inr bad ↦
      let both : ◌≡◌ {A = Read Cmd} (bad_field bad.0) (bad_field f) = sym (command_fault_back s w line bad.0 bad.1) ∙ h in
      let same : bad.0 ≡ f = cc in
      let P : ℕ → Type 0 = λ k. IsBadCommand s w line k in subst P same bad.1
]

-- no script line is one too many
pub command_unlimited : (s w : ℕ) (line : List ℕ) → command_of s w line ≡ Err line_fault.Limit → ⊥
command_unlimited s w line h = elim (command_total s w line) [
  | inl good ↦ let both = sym (command_back s w line good.0 good.1) ∙ h in cc
  | inr bad ↦ let both = sym (command_fault_back s w line bad.0 bad.1) ∙ h in cc
]
