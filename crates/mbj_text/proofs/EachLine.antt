-- Reading lines one after the other, whatever a line spells.
use Rattle.std.proofs.Common.{◌≡◌, ◌∙◌, ◌++◌, ap, sym, subst, refl, ℕ, List, [], ◌∷◌, Result, Ok, Err, append_assoc, append-nil}
use Rattle.mbj_text.specs.declared.fault.LineFault.{LineFault}
use Rattle.mbj_text.specs.declared.fault.TextFault.{TextFault}
use Rattle.mbj_text.specs.Cut.{Numbered}
use Rattle.mbj_text.specs.Stops.{SpellBehind, SpellEach, StopsAt}
use Rattle.mbj_text.specs.Inside.Reading.{Read, fault_at}

-- ---- line after line

-- the lines before those that are left spell the values
pub record ReadSoFar {X : Type 0} (Spells : List X → List ℕ → X → Type 0) (all left : List Numbered) (values : List X) : Type 0 where
  pub before : List Numbered
  pub cut_so : all ≡ before ++ left
  pub good : SpellEach Spells before values

module _ {X : Type 0} (Spells : List X → List ℕ → X → Type 0) where
  -- one line more spells one value more
  one_more_spelled : (before : List X) (lines : List Numbered) (values : List X) (line : Numbered) (x : X)
      → SpellBehind Spells before lines values → Spells (before ++ values) line.1 x
      → SpellBehind Spells before (lines ++ line ∷ []) (values ++ x ∷ [])
  one_more_spelled before [] [] line x good last =
      let P : List X → Type 0 = λ vs. Spells vs line.1 x in (subst P (append-nil before) last, tt)
  one_more_spelled before [] (v ∷ vs) line x good last = absurd good
  one_more_spelled before (l ∷ ls) [] line x good last = absurd good
  one_more_spelled before (l ∷ ls) (v ∷ vs) line x (first, more) last =
      let P : List X → Type 0 = λ vs. Spells vs line.1 x in
      (first, one_more_spelled (before ++ v ∷ []) ls vs line x more (subst P (sym (append_assoc before (v ∷ []) vs)) last))

  module _ (all : List Numbered) where
    -- no line is read yet
    pub none_read : ReadSoFar Spells all all []
    none_read = record { before = []; cut_so = refl; good = tt }

    module _ (left : List Numbered) (values : List X) (s : ReadSoFar Spells all left values) where
      -- no line is left
      pub each_read : left ≡ [] → SpellEach Spells all values
      each_read none =
          let whole : s.before ≡ all = sym (s.cut_so ∙ ap (λ (l : List Numbered). s.before ++ l) none ∙ append-nil s.before) in
          let P : List Numbered → Type 0 = λ l. SpellEach Spells l values in
          subst P whole s.good

      module _ (rest : List Numbered) (n : ℕ) (text : List ℕ) (next : left ≡ (n, text) ∷ rest) where
        -- one more line is good
        pub more_read : (x : X) → Spells values text x → ReadSoFar Spells all rest (values ++ x ∷ [])
        more_read x spelled = record {
          before = s.before ++ (n, text) ∷ [];
          cut_so = s.cut_so ∙ ap (λ (l : List Numbered). s.before ++ l) next ∙ sym (append_assoc s.before ((n, text) ∷ []) rest);
          good = one_more_spelled [] s.before values (n, text) x s.good spelled;
        }

        -- reading stops at the next line
        pub stops_next : (Why : List X → List ℕ → Type 0) → Why values text → StopsAt Spells Why all n
        stops_next Why why = record {
          before = s.before;
          text = text;
          after = rest;
          values = values;
          cut_so = s.cut_so ∙ ap (λ (l : List Numbered). s.before ++ l) next;
          good = s.good;
          why = why;
        }

-- ---- what lines spell, and where reading stops, is told by what this function gives

-- values, or a fault
abbrev Outcome : Type 0 → Type 0
Outcome X = Result (List X) TextFault

-- a line's value comes to those before, and a line's fault ends it
abbrev after_line : {X : Type 0} → List X → Read X → ℕ → (List X → Outcome X) → Outcome X
after_line before (Ok x) n next = next (before ++ x ∷ [])
after_line before (Err fault) n next = Err (fault_at n fault)

module _ {X : Type 0} (read : List X → List ℕ → Read X) where
  -- what the lines give behind the values before
  pub outcome : List X → List Numbered → Outcome X
  outcome before [] = Ok before
  outcome before (first ∷ rest) = after_line before (read before first.1) first.0 (λ values. outcome values rest)

  -- the first line, given what it is read as
  abbrev step : List X → Read X → ℕ → List Numbered → Outcome X
  step before one n rest = after_line before one n (λ values. outcome values rest)

  module _ (Spells : List X → List ℕ → X → Type 0) (back : (before : List X) (text : List ℕ) (x : X) → Spells before text x → read before text ≡ Ok x) where
    -- good lines come one after the other
    good_front : (before : List X) (front : List Numbered) (values : List X) (rest : List Numbered) → SpellBehind Spells before front values
        → outcome before (front ++ rest) ≡ outcome (before ++ values) rest
    unfolding outcome
    good_front before [] [] rest good = ap (λ (l : List X). outcome l rest) (sym (append-nil before))
    good_front before [] (x ∷ xs) rest good = absurd good
    good_front before (p ∷ ps) [] rest good = absurd good
    good_front before (p ∷ ps) (x ∷ xs) rest (first, more) =
        ap (λ r. step before r p.0 (ps ++ rest)) (back before p.1 x first)
        ∙ good_front (before ++ x ∷ []) ps xs rest more
        ∙ ap (λ (l : List X). outcome l rest) (append_assoc before (x ∷ []) xs)

    -- good lines give their values
    pub good_give : (lines : List Numbered) (values : List X) → SpellEach Spells lines values → outcome [] lines ≡ Ok values
    unfolding outcome
    good_give lines values good = ap (outcome []) (sym (append-nil lines)) ∙ good_front [] lines values [] good

    -- if reading stops, the fault of the line there is that of the lines
    pub stop_gives : (Why : List X → List ℕ → Type 0) (lines : List Numbered) (line : ℕ) (s : StopsAt Spells Why lines line) (fault : LineFault)
        → read s.values s.text ≡ Err fault → outcome [] lines ≡ Err (fault_at line fault)
    unfolding outcome
    stop_gives Why lines line s fault is =
        ap (outcome []) s.cut_so
        ∙ good_front [] s.before s.values ((line, s.text) ∷ s.after) s.good
        ∙ ap (λ r. step s.values r line s.after) is
