use Rattle.std.proofs.Common.{◌≡◌, List, [], ◌∷◌, ◌++◌, length, sym, ap, ◌∙◌, length-append, arith}
use Rattle.std.specs.Prelude.{slice_get}
use Rattle.mbj_front_tests.proofs.front.three.Goals as goal

-- three elements that were popped from a list of three
in_order : {A : Type 0} (all two one none : List A) (third second first : A) → all ≡ two ++ third ∷ [] → two ≡ one ++ second ∷ [] → one ≡ none ++ first ∷ [] → length all ≡ 3
    → all ≡ first ∷ second ∷ third ∷ []
in_order {A} all two one [] third second first a b c long = a ∙ ap (λ (l : List A). l ++ third ∷ []) (b ∙ ap (λ (l : List A). l ++ second ∷ []) c)
in_order {A} all two one (x ∷ none) third second first a b c long =
    let d = ap length a in let e = ap length b in let f = ap length c in
    let g = length-append two (third ∷ []) in let h = length-append one (second ∷ []) in let i = length-append (x ∷ none) (first ∷ []) in
    absurd (omega arith)

pub returns-clause-first : goal.returns-clause-first
returns-clause-first c = c.requires.seats 0 c.in_ok-first.first
    (ap (λ l. slice_get l 0) (in_order _ _ _ _ _ _ _ c.in_ok-third.ensures.items c.in_ok-second.ensures.items c.in_ok-first.ensures.items (sym c.args.seats.ok.0 ∙ c.requires.three)))

pub returns-clause-second : goal.returns-clause-second
returns-clause-second c = c.requires.seats 1 c.in_ok-second.second
    (ap (λ l. slice_get l 1) (in_order _ _ _ _ _ _ _ c.in_ok-third.ensures.items c.in_ok-second.ensures.items c.in_ok-first.ensures.items (sym c.args.seats.ok.0 ∙ c.requires.three)))

pub returns-clause-third : goal.returns-clause-third
returns-clause-third c = c.requires.seats 2 c.in_ok-third.third
    (ap (λ l. slice_get l 2) (in_order _ _ _ _ _ _ _ c.in_ok-third.ensures.items c.in_ok-second.ensures.items c.in_ok-first.ensures.items (sym c.args.seats.ok.0 ∙ c.requires.three)))
