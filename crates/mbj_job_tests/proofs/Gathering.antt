-- Entries side by side, by the numbers of their slots.
use Rattle.std.proofs.Common.{◌≡◌, ◌∙◌, ℕ, ◌≤◌, ◌<◌, ◌⊎◌, min, inl, inr, zero, suc, List, [], ◌∷◌, ◌++◌, length, map, get_or, Some, None, refl, sym, ap, subst, length-append, arith}
use Rattle.std.specs.Prelude.{◌==◌, if◌then◌else◌}
use Rattle.std.specs.Option.{option_map}
use Rattle.std.specs.List.{remove}
use Rattle.std.proofs.lemmas.List.{get_or_default}
use Rattle.std.proofs.lemmas.Bool.{cases_eq, cases_lt, ne_eqb, eq-eqb}
use Rattle.mbj_lane.specs.Rounds.{least, least_from}
use Rattle.mbj_lane.proofs.Least.{least-at}
use Rattle.mbj_lane.proofs.Listing.{of-push, apart-push, apart-remove, of-remove, in-at, gone, length-removed}
use Rattle.mbj_lane.specs.Slots.{IsIn, AreApart, IsWritten, IsLeast}
use Rattle.mbj_job_tests.specs.Gathered.{at_slot, AreGathered}

-- numbers below n, none twice, are at most n
pub is-in : (i : ℕ) (is : List ℕ) → (IsIn i is → ⊥) ⊎ ((k : ℕ) × (k < length is) × (i ≡ get_or is k i))
is-in i [] = inl (λ h. h)
is-in i (j ∷ is) =
    elim (cases_eq i j) [
      | inl same ↦ inr (0, omega arith, same)
      | inr other ↦ elim (is-in i is) [
        | inl none ↦ inl (λ h. elim h [ inl e ↦ other e | inr l ↦ none l ])
        | inr some ↦ inr (suc some.0, (let lt = some.1 in omega arith), some.2)
      ]
    ]

pub few : (n : ℕ) (is : List ℕ) → AreApart is → ((i : ℕ) → IsIn i is → i < n) → length is ≤ n
few n [] a below = omega arith
few zero (i ∷ is) a below = let b : i < 0 = below i (inl refl) in absurd (omega arith)
few (suc n) (i ∷ is) a below =
    let js : List ℕ = i ∷ is in
    elim (is-in n js) [
      | inl none ↦
          let less : (j : ℕ) → IsIn j js → j < n = λ j h. let b = below j h in let ne : j ≡ n → ⊥ = λ e. none (subst (λ (x : ℕ). IsIn x js) e h) in omega arith in
          let l = few n js a less in omega arith
      | inr some ↦
          let less : (j : ℕ) → IsIn j (remove js some.0) → j < n =
          λ j h. let b = below j (of-remove j some.0 js h) in
          let ne : j ≡ n → ⊥ = λ e. gone n some.0 js some.1 some.2 a (subst (λ (x : ℕ). IsIn x (remove js some.0)) e h) in omega arith in
          let l = few n (remove js some.0) (apart-remove some.0 js a) less in
          omega (arith, l, length-removed some.0 js some.1)
    ]

module _ {E : Type 0} where
  pub at-miss : (ps : List ℕ) (es : List E) (i : ℕ) → (IsIn i ps → ⊥) → at_slot ps es i ≡ None
  at-miss [] es i n = refl
  at-miss (p ∷ ps) [] i n = refl
  at-miss (p ∷ ps) (e ∷ es) i n = rw (ne_eqb i p (λ s. n (inl s))) (at-miss ps es i (λ l. n (inr l)))

  pub at-hit : (ps : List ℕ) (es : List E) (k i : ℕ) (d : E) → AreApart ps → length ps ≡ length es → k < length ps → i ≡ get_or ps k i
      → at_slot ps es i ≡ Some (get_or es k d)
  at-hit [] es k i d a same lt at = absurd (omega arith)
  at-hit (p ∷ ps) [] k i d a same lt at = absurd (omega arith)
  at-hit (p ∷ ps) (e ∷ es) zero i d a same lt at = rw (eq-eqb i p at) refl
  at-hit (p ∷ ps) (e ∷ es) (suc k) i d a same lt at =
      let lt' : k < length ps = omega arith in let same' : length ps ≡ length es = omega arith in
      let other : i ≡ p → ⊥ = λ s. a.0 (subst (λ (x : ℕ). IsIn x ps) s (in-at i k ps lt' at)) in
      rw (ne_eqb i p other) (at-hit ps es k i d a.1 same' lt' at)

  pub at-in : (ps : List ℕ) (es : List E) (i : ℕ) (e : E) → at_slot ps es i ≡ Some e
      → (k : ℕ) × (k < length ps) × (k < length es) × (i ≡ get_or ps k i) × ((d : E) → get_or es k d ≡ e)
  at-in [] es i e s = absurd (cc)
  at-in (p ∷ ps) [] i e s = absurd (cc)
  at-in (p ∷ ps) (x ∷ es) i e s =
      elim (cases_eq i p) [
        | inl same ↦ let s' = rw (eq-eqb i p same) at s in let xe : x ≡ e = cc in (0, omega arith, omega arith, same, λ d. xe)
        | inr other ↦
            let s' = rw (ne_eqb i p other) at s in
            let r = at-in ps es i e s' in
            let l1 = r.1 in let l2 = r.2 in
            (suc r.0, omega arith, omega arith, r.3, r.4)
      ]

  -- the slot of an entry is among the numbers
  pub busy-is-in : (ps : List ℕ) (es : List E) (i : ℕ) (e : E) → at_slot ps es i ≡ Some e → IsIn i ps
  busy-is-in ps es i e s = let r = at-in ps es i e s in in-at i r.0 ps r.1 r.3

  pub not-in : (ps : List ℕ) (es : List E) (i : ℕ) → length ps ≡ length es → at_slot ps es i ≡ None → IsIn i ps → ⊥
  not-in [] es i same none h = h
  not-in (p ∷ ps) [] i same none h = absurd (omega arith)
  not-in (p ∷ ps) (x ∷ es) i same none h =
      let same' : length ps ≡ length es = omega arith in
      elim (cases_eq i p) [
        | inl eq ↦ let s' = rw (eq-eqb i p eq) at none in absurd (cc)
        | inr other ↦ let s' = rw (ne_eqb i p other) at none in elim h [ inl eq ↦ other eq | inr l ↦ not-in ps es i same' s' l ]
      ]

  pub at-map : (h : E → E) (ps : List ℕ) (es : List E) (i : ℕ) → at_slot ps (map h es) i ≡ option_map h (at_slot ps es i)
  at-map h [] es i = refl
  at-map h (p ∷ ps) [] i = refl
  at-map h (p ∷ ps) (x ∷ es) i =
      elim (cases_eq i p) [
        | inl eq ↦ rw (eq-eqb i p eq) refl
        | inr other ↦ rw (ne_eqb i p other) (at-map h ps es i)
      ]

  at-push-other : (ps : List ℕ) (es : List E) (i j : ℕ) (e : E) → length ps ≡ length es → (j ≡ i → ⊥) → at_slot (ps ++ i ∷ []) (es ++ e ∷ []) j ≡ at_slot ps es j
  at-push-other [] [] i j e same n = rw (ne_eqb j i n) refl
  at-push-other [] (x ∷ es) i j e same n = absurd (omega arith)
  at-push-other (p ∷ ps) [] i j e same n = absurd (omega arith)
  at-push-other (p ∷ ps) (x ∷ es) i j e same n =
      let same' : length ps ≡ length es = omega arith in
      ap (λ o. if j == p then Some x else o) (at-push-other ps es i j e same' n)

  at-push-here : (ps : List ℕ) (es : List E) (i : ℕ) (e : E) → length ps ≡ length es → (IsIn i ps → ⊥) → at_slot (ps ++ i ∷ []) (es ++ e ∷ []) i ≡ Some e
  at-push-here [] [] i e same n = rw (eq-eqb i i refl) refl
  at-push-here [] (x ∷ es) i e same n = absurd (omega arith)
  at-push-here (p ∷ ps) [] i e same n = absurd (omega arith)
  at-push-here (p ∷ ps) (x ∷ es) i e same n =
      let same' : length ps ≡ length es = omega arith in
      rw (ne_eqb i p (λ s. n (inl s))) (at-push-here ps es i e same' (λ l. n (inr l)))

  at-remove : (ps : List ℕ) (es : List E) (k i j : ℕ) → length ps ≡ length es → k < length ps → i ≡ get_or ps k i → (j ≡ i → ⊥)
      → at_slot (remove ps k) (remove es k) j ≡ at_slot ps es j
  at-remove [] es k i j same lt at n = absurd (omega arith)
  at-remove (p ∷ ps) [] k i j same lt at n = absurd (omega arith)
  at-remove (p ∷ ps) (x ∷ es) zero i j same lt at n = let n' : j ≡ p → ⊥ = λ s. n (s ∙ sym at) in rw (ne_eqb j p n') refl
  at-remove (p ∷ ps) (x ∷ es) (suc k) i j same lt at n =
      let same' : length ps ≡ length es = omega arith in let lt' : k < length ps = omega arith in
      ap (λ o. if j == p then Some x else o) (at-remove ps es k i j same' lt' at n)

  module _ (lanes : ℕ) (ps : List ℕ) (es : List E) (gathered : AreGathered lanes ps es) where
    pub room-left : (i : ℕ) → i < lanes → at_slot ps es i ≡ None → length ps < lanes
    room-left i lt none =
        let n = not-in ps es i gathered.same none in
        let all = few lanes (ps ++ i ∷ []) (apart-push i ps gathered.apart n)
        (λ j h. elim (of-push j i ps h) [ inl l ↦ gathered.below j l | inr e ↦ rw e lt ]) in
        omega (arith, all, length-append ps (i ∷ []))

    pub few-entries : length es ≤ lanes
    few-entries = let l = few lanes ps gathered.apart gathered.below in let s = gathered.same in omega arith

    pub put-gathered : (i : ℕ) (e : E) → i < lanes → at_slot ps es i ≡ None → AreGathered lanes (ps ++ i ∷ []) (es ++ e ∷ [])
    put-gathered i e lt none = record {
      same = omega (arith, gathered.same, length-append ps (i ∷ []), length-append es (e ∷ []));
      apart = apart-push i ps gathered.apart (not-in ps es i gathered.same none);
      below = λ j h. elim (of-push j i ps h) [ inl l ↦ gathered.below j l | inr eq ↦ rw eq lt ];
    }

    pub put-written : (i : ℕ) (e : E) → at_slot ps es i ≡ None
        → IsWritten lanes i (Some e) (at_slot ps es) (at_slot (ps ++ i ∷ []) (es ++ e ∷ []))
    put-written i e none = record {
      here = at-push-here ps es i e gathered.same (not-in ps es i gathered.same none);
      others = λ j lt n. at-push-other ps es i j e gathered.same n;
    }

    module _ (k i : ℕ) (lt : k < length ps) (at : i ≡ get_or ps k i) where
      -- the entry of the slot stands at its place
      pub hit-is : (e d : E) → at_slot ps es i ≡ Some e → get_or es k d ≡ e
      hit-is e d s = let h = at-hit ps es k i d gathered.apart gathered.same lt at in cc

      pub take-gathered : AreGathered lanes (remove ps k) (remove es k)
      take-gathered =
          let s = gathered.same in
          let lt' : k < length es = omega arith in
          record {
            same = omega (arith, s, length-removed k ps lt, length-removed k es lt');
            apart = apart-remove k ps gathered.apart;
            below = λ j h. gathered.below j (of-remove j k ps h);
          }

      pub take-written : IsWritten lanes i None (at_slot ps es) (at_slot (remove ps k) (remove es k))
      take-written = record {
        here = at-miss (remove ps k) (remove es k) i (gone i k ps lt at gathered.apart);
        others = λ j l n. at-remove ps es k i j gathered.same lt at n;
      }

    -- each entry stands in a slot
    pub slot-of : (k : ℕ) (d : E) → k < length es → (i : ℕ) × (i < lanes) × (at_slot ps es i ≡ Some (get_or es k d))
    slot-of k d lt =
        let s = gathered.same in
        let lt' : k < length ps = omega arith in
        let i : ℕ = get_or ps k 0 in
        let at : i ≡ get_or ps k i = get_or_default ps k 0 i lt' in
        (i, gathered.below i (in-at i k ps lt' at), at-hit ps es k i d gathered.apart s lt' at)

    pub is-least : (rest : E → ℕ) (n : ℕ) → 0 < length es → n ≡ least rest es → IsLeast rest lanes (at_slot ps es) n
    is-least rest n some is = record {
      below = λ i e lt s. let r = at-in ps es i e s in let l = least-at rest es r.0 e r.2 in let z = ap rest (r.4 e) in omega arith;
      met = (let m = least-met rest es some in let w = slot-of m.0 m.1 m.2 in (w.0, get_or es m.0 m.1, w.1, w.2, is ∙ m.3));
    }
      where
        least-from-met : (rest : E → ℕ) (m : ℕ) (es : List E) → (least_from rest m es ≡ m) ⊎ ((k : ℕ) × (k < length es) × ((d : E) → least_from rest m es ≡ rest (get_or es k d)))
        least-from-met rest m [] = inl refl
        least-from-met rest m (e ∷ es) =
            elim (least-from-met rest (min m (rest e)) es) [
              | inl same ↦ elim (cases_lt (rest e) m) [
                | inl lt ↦ inr (0, omega arith, λ d. omega (arith, same))
                | inr le ↦ inl (omega (arith, same))
              ]
              | inr r ↦ inr (suc r.0, (let l = r.1 in omega arith), r.2)
            ]

        least-met : (rest : E → ℕ) (es : List E) → 0 < length es → (k : ℕ) × (d : E) × (k < length es) × (least rest es ≡ rest (get_or es k d))
        least-met rest [] some = absurd (omega arith)
        least-met rest (e ∷ es) some =
            elim (least-from-met rest (rest e) es) [
              | inl same ↦ (0, e, omega arith, same)
              | inr r ↦ (suc r.0, e, (let l = r.1 in omega arith), r.2 e)
            ]
