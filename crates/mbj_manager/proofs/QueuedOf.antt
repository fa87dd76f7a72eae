-- Entries, each with its job's place, as what is queued for lanes: what joining, running and taking make of them.
use Rattle.std.proofs.Common.{◌≡◌, ℕ, ◌+◌, ◌-◌, ◌≤◌, ◌<◌, min, zero, suc, List, [], ◌∷◌, ◌++◌, length, map, get_or, remove, Some, None, eqb, false, refl, ap, ◌∙◌, arith}
use Rattle.std.specs.Prelude.{All}
use Rattle.std.specs.Option.{option_map}
use Rattle.std.proofs.lemmas.Bool.{ne_eqb}
use Rattle.mbj_lane.specs.Rounds.{IsFirst, after, end_of, least, least_from, taken}
use Rattle.mbj_lane.specs.Laws.{end-after, rest-after}
use Rattle.mbj_stage.specs.Handing.{End}
use Rattle.mbj_manager.specs.Inside.PlacedQueue.{HasRest, PlacedEntry, entry_view, ended, advanced_entry, pair_rest, rounds_in, queued_of}

module _ {E : Type 0} (round : E → E) (rest : E → ℕ) (brings : E → End) where
  abbrev see : List ℕ → List E → List PlacedEntry
  see ps es = queued_of round rest brings ps es

  pub queued_of-length : (ps : List ℕ) (es : List E) → length ps ≡ length es → length (see ps es) ≡ length es
  queued_of-length [] [] h = refl
  queued_of-length [] (e ∷ es) h = absurd (omega arith)
  queued_of-length (p ∷ ps) [] h = refl
  queued_of-length (p ∷ ps) (e ∷ es) h = ap suc (queued_of-length ps es (omega arith))

  pub queued_of-join : (ps : List ℕ) (es : List E) (p : ℕ) (e : E) → length ps ≡ length es
      → see (ps ++ p ∷ []) (es ++ e ∷ []) ≡ see ps es ++ (p, entry_view round rest brings e) ∷ []
  queued_of-join [] [] p e h = refl
  queued_of-join [] (x ∷ es) p e h = absurd (omega arith)
  queued_of-join (q ∷ ps) [] p e h = absurd (omega arith)
  queued_of-join (q ∷ ps) (x ∷ es) p e h = ap (λ (r : List PlacedEntry). (q, entry_view round rest brings x) ∷ r) (queued_of-join ps es p e (omega arith))

  pub queued_of-rests : (ps : List ℕ) (es : List E) → length ps ≡ length es → map rest es ≡ map (pair_rest rounds_in) (see ps es)
  queued_of-rests [] [] h = refl
  queued_of-rests [] (e ∷ es) h = absurd (omega arith)
  queued_of-rests (p ∷ ps) [] h = refl
  queued_of-rests (p ∷ ps) (e ∷ es) h = ap (λ (r : List ℕ). rest e ∷ r) (queued_of-rests ps es (omega arith))

  pub queued_of-ends : (ps : List ℕ) (es : List E) → length ps ≡ length es
      → map (λ e. brings (end_of round rest e)) es ≡ map (λ (w : PlacedEntry). w.1.brings) (see ps es)
  queued_of-ends [] [] h = refl
  queued_of-ends [] (e ∷ es) h = absurd (omega arith)
  queued_of-ends (p ∷ ps) [] h = refl
  queued_of-ends (p ∷ ps) (e ∷ es) h = ap (λ (r : List End). brings (end_of round rest e) ∷ r) (queued_of-ends ps es (omega arith))

  least_from-queued_of : (n : ℕ) (ps : List ℕ) (es : List E) → length ps ≡ length es → least_from (pair_rest rounds_in) n (see ps es) ≡ least_from rest n es
  least_from-queued_of n [] [] h = refl
  least_from-queued_of n [] (e ∷ es) h = absurd (omega arith)
  least_from-queued_of n (p ∷ ps) [] h = refl
  least_from-queued_of n (p ∷ ps) (e ∷ es) h = least_from-queued_of (min n (rest e)) ps es (omega arith)

  pub queued_of-least : (ps : List ℕ) (es : List E) → length ps ≡ length es → least (pair_rest rounds_in) (see ps es) ≡ least rest es
  queued_of-least [] [] h = refl
  queued_of-least [] (e ∷ es) h = absurd (omega arith)
  queued_of-least (p ∷ ps) [] h = refl
  queued_of-least (p ∷ ps) (e ∷ es) h = least_from-queued_of (rest e) ps es (omega arith)

  -- each entry has a round left
  pub queued_of-some : (ps : List ℕ) (es : List E) → length ps ≡ length es → All HasRest (see ps es) → (k : ℕ) (d : E) → k < length es → 1 ≤ rest (get_or es k d)
  queued_of-some [] [] h a k d l = absurd (omega arith)
  queued_of-some [] (e ∷ es) h a k d l = absurd (omega arith)
  queued_of-some (p ∷ ps) [] h a k d l = absurd (omega arith)
  queued_of-some (p ∷ ps) (e ∷ es) h a zero d l = a 0 (p, entry_view round rest brings e) (omega arith)
  queued_of-some (p ∷ ps) (e ∷ es) h a (suc k) d l = queued_of-some ps es (omega arith) (λ i x lt. a (suc i) x (omega arith)) k d (omega arith)

  pub queued_of-advanced : (m : ℕ) (ps : List ℕ) (es : List E) → ((e : E) → rest (round e) ≡ rest e - 1)
      → ((k : ℕ) (d : E) → k < length es → m ≤ rest (get_or es k d)) → see ps (map (after round m) es) ≡ map (advanced_entry m) (see ps es)
  queued_of-advanced m [] es falls h = refl
  queued_of-advanced m (p ∷ ps) [] falls h = refl
  queued_of-advanced m (p ∷ ps) (e ∷ es) falls h =
      let a : rest (after round m e) ≡ rest e - m = rest-after round rest falls m e in
      let b : end_of round rest (after round m e) ≡ end_of round rest e = end-after round rest falls m e (h 0 e (omega arith)) in
      let i : see ps (map (after round m) es) ≡ map (advanced_entry m) (see ps es) = queued_of-advanced m ps es falls (λ k d l. h (suc k) d (omega arith)) in
      let made : ℕ → End → PlacedEntry = λ r x. (p, record { rounds = r; brings = x }) in
      ap (λ (r : ℕ). made r (brings (end_of round rest (after round m e))) ∷ see ps (map (after round m) es)) a
      ∙ ap (λ (x : E). made (rest e - m) (brings x) ∷ see ps (map (after round m) es)) b
      ∙ ap (λ (r : List PlacedEntry). made (rest e - m) (brings (end_of round rest e)) ∷ r) i

  -- ---- what is taken

  pub queued_of-take : (ps : List ℕ) (es : List E) (i p : ℕ) (e : E) → length ps ≡ length es → IsFirst rest i es → p ≡ get_or ps i p → e ≡ get_or es i e
      → taken (pair_rest rounds_in) (see ps es) ≡ Some ((p, ended (brings e)), see (remove ps i) (remove es i))
  queued_of-take [] [] i p e h first a b = absurd (omega (arith, first.inside))
  queued_of-take [] (x ∷ es) i p e h first a b = absurd (omega arith)
  queued_of-take (q ∷ ps) [] i p e h first a b = absurd (omega arith)
  queued_of-take (q ∷ ps) (x ∷ es) zero p e h first a b =
      let z : rest x ≡ 0 = first.done x in rw (z, a, b) refl
  queued_of-take (q ∷ ps) (x ∷ es) (suc i) p e h first a b =
      let some : 1 ≤ rest x = first.before 0 x (omega arith) in
      let apart : eqb (rest x) 0 ≡ false = ne_eqb (rest x) 0 (λ z. omega (arith, z)) in
      let later : IsFirst rest i es = record {
        inside = (let l = first.inside in omega arith);
        before = λ k d lt. first.before (suc k) d (omega arith);
        done = first.done;
      } in
      rw apart (ap (option_map (λ t. (t.0, (q, entry_view round rest brings x) ∷ t.1))) (queued_of-take ps es i p e (omega arith) later a b))

  pub queued_of-none : (ps : List ℕ) (es : List E) → All (λ e. 1 ≤ rest e) es → taken (pair_rest rounds_in) (see ps es) ≡ None
  queued_of-none [] es a = refl
  queued_of-none (p ∷ ps) [] a = refl
  queued_of-none (p ∷ ps) (e ∷ es) a =
      let some : 1 ≤ rest e = a 0 e (omega arith) in
      let apart : eqb (rest e) 0 ≡ false = ne_eqb (rest e) 0 (λ z. omega (arith, z)) in
      rw apart (ap (option_map (λ t. (t.0, (p, entry_view round rest brings e) ∷ t.1))) (queued_of-none ps es (λ k d l. a (suc k) d (omega arith))))

-- ---- one taken out of a list

-- there is an element at a place
pub entry-there : {A : Type 0} (xs : List A) (i : ℕ) → i < length xs → (x : A) × (x ≡ get_or xs i x)
entry-there [] i h = absurd (omega arith)
entry-there (x ∷ xs) zero h = (x, refl)
entry-there (x ∷ xs) (suc i) h = let h' : i < length xs = omega arith in entry-there xs i h'

pub length-removed : {A : Type 0} (xs : List A) (i : ℕ) → i < length xs → length (remove xs i) + 1 ≡ length xs
length-removed [] i h = absurd (omega arith)
length-removed (x ∷ xs) zero h = omega arith
length-removed (x ∷ xs) (suc i) h = omega (arith, length-removed xs i (omega arith))

pub all-removed : {A : Type 0} (P : A → Type 0) (xs : List A) (i : ℕ) → i < length xs → All P xs → All P (remove xs i)
all-removed P [] i h a k d l = absurd (omega arith)
all-removed P (x ∷ xs) zero h a k d l = a (suc k) d (omega arith)
all-removed P (x ∷ xs) (suc i) h a zero d l = a 0 d (omega arith)
all-removed P (x ∷ xs) (suc i) h a (suc k) d l = all-removed P xs i (omega arith) (λ j e lt. a (suc j) e (omega arith)) k d (omega arith)
