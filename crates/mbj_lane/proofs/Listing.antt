-- What stands in slots, in an order of slots, as slots are written.
use Rattle.std.proofs.Common.{◌≡◌, ◌∙◌, ℕ, ◌+◌, ◌≤◌, ◌<◌, ◌⊎◌, min, inl, inr, zero, suc, List, [], ◌∷◌, ◌++◌, length, map, get_or, Option, Some, None, refl, sym, ap, ap₂, subst, length-append, arith}
use Rattle.std.specs.Option.{option_map}
use Rattle.std.proofs.lemmas.Bool.{cases_eq}
use Rattle.std.specs.List.{remove}
use Rattle.mbj_lane.specs.Rounds.{least, least_from}
use Rattle.mbj_lane.proofs.Least.{least_from-le}
use Rattle.mbj_lane.specs.Slots.{joined, listed, IsBusy, AreBusy, AreIdle, IsIn, AreApart, AreListed, IsWritten, IsLeast}

-- one more number
pub in-push : (j i : ℕ) (is : List ℕ) → IsIn j is → IsIn j (is ++ i ∷ [])
in-push j i [] h = absurd h
in-push j i (k ∷ is) h = elim h [ inl e ↦ inl e | inr l ↦ inr (in-push j i is l) ]

pub in-pushed : (i : ℕ) (is : List ℕ) → IsIn i (is ++ i ∷ [])
in-pushed i [] = inl refl
in-pushed i (k ∷ is) = inr (in-pushed i is)

pub of-push : (j i : ℕ) (is : List ℕ) → IsIn j (is ++ i ∷ []) → IsIn j is ⊎ (j ≡ i)
of-push j i [] h = elim h [ inl e ↦ inr e | inr l ↦ absurd l ]
of-push j i (k ∷ is) h = elim h [ inl e ↦ inl (inl e) | inr l ↦ elim (of-push j i is l) [ inl m ↦ inl (inr m) | inr e ↦ inr e ] ]

pub apart-push : (i : ℕ) (is : List ℕ) → AreApart is → (IsIn i is → ⊥) → AreApart (is ++ i ∷ [])
apart-push i [] a n = (λ h. h, tt)
apart-push i (k ∷ is) a n =
    ((λ h. elim (of-push k i is h) [ inl l ↦ a.0 l | inr e ↦ n (inl (sym e)) ]), apart-push i is a.1 (λ l. n (inr l)))

pub apart-front : (i : ℕ) (is : List ℕ) → AreApart (is ++ i ∷ []) → AreApart is
apart-front i [] a = tt
apart-front i (k ∷ is) a = ((λ l. a.0 (in-push k i is l)), apart-front i is a.1)

pub apart-last : (i : ℕ) (is : List ℕ) → AreApart (is ++ i ∷ []) → IsIn i is → ⊥
apart-last i [] a h = h
apart-last i (k ∷ is) a h = elim h [ inl e ↦ a.0 (subst (λ (x : ℕ). IsIn x (is ++ i ∷ [])) e (in-pushed i is)) | inr l ↦ apart-last i is a.1 l ]

-- one number less
pub of-remove : (j k : ℕ) (is : List ℕ) → IsIn j (remove is k) → IsIn j is
of-remove j zero [] h = absurd h
of-remove j (suc k) [] h = absurd h
of-remove j zero (i ∷ is) h = inr h
of-remove j (suc k) (i ∷ is) h = elim h [ inl e ↦ inl e | inr l ↦ inr (of-remove j k is l) ]

pub in-remove : (j i k : ℕ) (is : List ℕ) → k < length is → i ≡ get_or is k i → IsIn j is → (j ≡ i → ⊥) → IsIn j (remove is k)
in-remove j i k [] lt at h n = absurd h
in-remove j i zero (x ∷ is) lt at h n = elim h [ inl e ↦ absurd (n (e ∙ sym at)) | inr l ↦ l ]
in-remove j i (suc k) (x ∷ is) lt at h n =
    let lt' : k < length is = omega arith in elim h [ inl e ↦ inl e | inr l ↦ inr (in-remove j i k is lt' at l n) ]

pub apart-remove : (k : ℕ) (is : List ℕ) → AreApart is → AreApart (remove is k)
apart-remove zero [] a = tt
apart-remove (suc k) [] a = tt
apart-remove zero (i ∷ is) a = a.1
apart-remove (suc k) (i ∷ is) a = ((λ l. a.0 (of-remove i k is l)), apart-remove k is a.1)

pub in-at : (i k : ℕ) (is : List ℕ) → k < length is → i ≡ get_or is k i → IsIn i is
in-at i k [] lt at = absurd (omega arith)
in-at i zero (x ∷ is) lt at = inl at
in-at i (suc k) (x ∷ is) lt at = let lt' : k < length is = omega arith in inr (in-at i k is lt' at)

pub gone : (i k : ℕ) (is : List ℕ) → k < length is → i ≡ get_or is k i → AreApart is → IsIn i (remove is k) → ⊥
gone i k [] lt at a h = absurd (omega arith)
gone i zero (x ∷ is) lt at a h = a.0 (subst (λ (y : ℕ). IsIn y is) at h)
gone i (suc k) (x ∷ is) lt at a h =
    let lt' : k < length is = omega arith in
    elim h [ inl e ↦ a.0 (subst (λ (y : ℕ). IsIn y is) e (in-at i k is lt' at)) | inr l ↦ gone i k is lt' at a.1 l ]

pub length-removed : {A : Type 0} (k : ℕ) (is : List A) → k < length is → length (remove is k) + 1 ≡ length is
length-removed k [] lt = absurd (omega arith)
length-removed zero (x ∷ is) lt = omega arith
length-removed (suc k) (x ∷ is) lt = let lt' : k < length is = omega arith in omega (arith, length-removed k is lt')

-- what is read of each element
module _ {A B : Type 0} (f : A → B) where
  pub map-push : (xs : List A) (x : A) → map f (xs ++ x ∷ []) ≡ map f xs ++ f x ∷ []
  map-push [] x = refl
  map-push (y ∷ xs) x = ap (λ ys. f y ∷ ys) (map-push xs x)

  pub map-remove : (xs : List A) (k : ℕ) → map f (remove xs k) ≡ remove (map f xs) k
  map-remove [] zero = refl
  map-remove [] (suc k) = refl
  map-remove (x ∷ xs) zero = refl
  map-remove (x ∷ xs) (suc k) = ap (λ ys. f x ∷ ys) (map-remove xs k)

  pub map-at : (xs : List A) (k : ℕ) (x : A) → k < length xs → x ≡ get_or xs k x → f x ≡ get_or (map f xs) k (f x)
  map-at [] k x lt at = absurd (omega arith)
  map-at (y ∷ xs) zero x lt at = ap f at
  map-at (y ∷ xs) (suc k) x lt at = let lt' : k < length xs = omega arith in map-at xs k x lt' at

module _ {E : Type 0} (lanes : ℕ) where
  -- there are as many entries as slots
  pub length-listed : (f : ℕ → Option E) (is : List ℕ) → AreBusy f lanes is → length (listed f is) ≡ length is
  length-listed f [] b = refl
  length-listed f (i ∷ is) b = rw b.1.1 (ap suc (length-listed f is b.2))

  -- the slot and the entry at a place
  pub busy-at : (f : ℕ → Option E) (is : List ℕ) (k i : ℕ) → AreBusy f lanes is → k < length is → i ≡ get_or is k i → (i < lanes) × IsBusy f i
  busy-at f [] k i b lt at = absurd (omega arith)
  busy-at f (j ∷ is) zero i b lt at = rw at (b.0, b.1)
  busy-at f (j ∷ is) (suc k) i b lt at = let lt' : k < length is = omega arith in busy-at f is k i b.2 lt' at

  pub get_or-listed : (f : ℕ → Option E) (is : List ℕ) (k i : ℕ) (e d : E) → AreBusy f lanes is → k < length is → i ≡ get_or is k i → f i ≡ Some e
      → get_or (listed f is) k d ≡ e
  get_or-listed f [] k i e d b lt at s = absurd (omega arith)
  get_or-listed f (j ∷ is) zero i e d b lt at s = let s' : f j ≡ Some e = rw at at s in rw s' refl
  get_or-listed f (j ∷ is) (suc k) i e d b lt at s =
      let lt' : k < length is = omega arith in rw b.1.1 (get_or-listed f is k i e d b.2 lt' at s)

  pub busy-in : (f : ℕ → Option E) (is : List ℕ) (i : ℕ) → AreBusy f lanes is → IsIn i is → (i < lanes) × IsBusy f i
  busy-in f [] i b h = absurd h
  busy-in f (j ∷ is) i b h = elim h [ inl e ↦ rw e (b.0, b.1) | inr l ↦ busy-in f is i b.2 l ]

  pub idle-in : (f : ℕ → Option E) (is : List ℕ) (i : ℕ) → AreIdle f lanes is → IsIn i is → f i ≡ None
  idle-in f [] i b h = absurd h
  idle-in f (j ∷ is) i b h = elim h [ inl e ↦ rw e b.1 | inr l ↦ idle-in f is i b.2 l ]

  -- slots that stay
  pub busy-stay : (f g : ℕ → Option E) (is : List ℕ) → AreBusy f lanes is → ((j : ℕ) → j < lanes → IsIn j is → g j ≡ f j) → AreBusy g lanes is
  busy-stay f g [] b same = tt
  busy-stay f g (i ∷ is) b same = (b.0, (b.1.0, same i b.0 (inl refl) ∙ b.1.1), busy-stay f g is b.2 (λ j lt l. same j lt (inr l)))

  pub idle-stay : (f g : ℕ → Option E) (is : List ℕ) → AreIdle f lanes is → ((j : ℕ) → j < lanes → IsIn j is → g j ≡ f j) → AreIdle g lanes is
  idle-stay f g [] b same = tt
  idle-stay f g (i ∷ is) b same = (b.0, same i b.0 (inl refl) ∙ b.1, idle-stay f g is b.2 (λ j lt l. same j lt (inr l)))

  pub listed-stay : (f g : ℕ → Option E) (is : List ℕ) → AreBusy f lanes is → ((j : ℕ) → j < lanes → IsIn j is → g j ≡ f j) → listed g is ≡ listed f is
  listed-stay f g [] b same = refl
  listed-stay f g (i ∷ is) b same = ap₂ joined (same i b.0 (inl refl)) (listed-stay f g is b.2 (λ j lt l. same j lt (inr l)))

  -- one slot more
  busy-push : (f : ℕ → Option E) (is : List ℕ) (i : ℕ) → AreBusy f lanes is → i < lanes → IsBusy f i → AreBusy f lanes (is ++ i ∷ [])
  busy-push f [] i b lt s = (lt, s, tt)
  busy-push f (j ∷ is) i b lt s = (b.0, b.1, busy-push f is i b.2 lt s)

  pub idle-push : (f : ℕ → Option E) (is : List ℕ) (i : ℕ) → AreIdle f lanes is → i < lanes → f i ≡ None → AreIdle f lanes (is ++ i ∷ [])
  idle-push f [] i b lt s = (lt, s, tt)
  idle-push f (j ∷ is) i b lt s = (b.0, b.1, idle-push f is i b.2 lt s)

  idle-front : (f : ℕ → Option E) (is : List ℕ) (i : ℕ) → AreIdle f lanes (is ++ i ∷ []) → AreIdle f lanes is
  idle-front f [] i b = tt
  idle-front f (j ∷ is) i b = (b.0, b.1, idle-front f is i b.2)

  pub idle-last : (f : ℕ → Option E) (is : List ℕ) (i : ℕ) → AreIdle f lanes (is ++ i ∷ []) → (i < lanes) × (f i ≡ None)
  idle-last f [] i b = (b.0, b.1)
  idle-last f (j ∷ is) i b = idle-last f is i b.2

  listed-push : (f : ℕ → Option E) (is : List ℕ) (i : ℕ) (e : E) → AreBusy f lanes is → f i ≡ Some e → listed f (is ++ i ∷ []) ≡ listed f is ++ e ∷ []
  listed-push f [] i e b s = rw s refl
  listed-push f (j ∷ is) i e b s = rw b.1.1 (ap (λ es. b.1.0 ∷ es) (listed-push f is i e b.2 s))

  -- one slot less
  busy-remove : (f : ℕ → Option E) (is : List ℕ) (k : ℕ) → AreBusy f lanes is → AreBusy f lanes (remove is k)
  busy-remove f [] zero b = tt
  busy-remove f [] (suc k) b = tt
  busy-remove f (j ∷ is) zero b = b.2
  busy-remove f (j ∷ is) (suc k) b = (b.0, b.1, busy-remove f is k b.2)

  listed-remove : (f : ℕ → Option E) (is : List ℕ) (k : ℕ) → AreBusy f lanes is → k < length is → listed f (remove is k) ≡ remove (listed f is) k
  listed-remove f [] k b lt = absurd (omega arith)
  listed-remove f (j ∷ is) zero b lt = rw b.1.1 refl
  listed-remove f (j ∷ is) (suc k) b lt =
      let lt' : k < length is = omega arith in rw b.1.1 (ap (λ es. b.1.0 ∷ es) (listed-remove f is k b.2 lt'))

  -- an entry takes a slot
  module _ (f : ℕ → Option E) (order free front : List ℕ) (i : ℕ) (before : AreListed lanes f order free) (last : free ≡ front ++ i ∷ []) where
    idle-all : AreIdle f lanes (front ++ i ∷ [])
    idle-all = rw (← last) before.idle

    pub enters-lane : (i < lanes) × (f i ≡ None)
    enters-lane = idle-last f front i idle-all

    apart-all : AreApart (front ++ i ∷ [])
    apart-all = rw (← last) before.apart_free

    not_in_order : IsIn i order → ⊥
    not_in_order h = let s = busy-in f order i before.busy h in let n = enters-lane.1 in let s' = s.1.1 in cc

    module _ (g : ℕ → Option E) (e : E) (put : IsWritten lanes i (Some e) f g) where
      order-stays : (j : ℕ) → j < lanes → IsIn j order → g j ≡ f j
      order-stays j lt h = put.others j lt (λ same. not_in_order (subst (λ (x : ℕ). IsIn x order) same h))

      front-stays : (j : ℕ) → j < lanes → IsIn j front → g j ≡ f j
      front-stays j lt h = put.others j lt (λ same. apart-last i front apart-all (subst (λ (x : ℕ). IsIn x front) same h))

      still_all : (j : ℕ) → j < lanes → IsBusy g j → IsIn j (order ++ i ∷ [])
      still_all j lt s =
          elim (cases_eq j i) [
            | inl same ↦ rw same (in-pushed i order)
            | inr other ↦ in-push j i order (before.all j lt (s.0, sym (put.others j lt other) ∙ s.1))
          ]

      pub entered : AreListed lanes g (order ++ i ∷ []) front
      entered = record {
        busy = busy-push g order i (busy-stay f g order before.busy order-stays) enters-lane.0 (e, put.here);
        idle = idle-stay f g front (idle-front f front i idle-all) front-stays;
        apart = apart-push i order before.apart not_in_order;
        apart_free = apart-front i front apart-all;
        all = still_all;
        count = omega (arith, before.count, ap length last, length-append front (i ∷ []), length-append order (i ∷ []));
      }

      pub listed-entered : listed g (order ++ i ∷ []) ≡ listed f order ++ e ∷ []
      listed-entered =
          listed-push g order i e (busy-stay f g order before.busy order-stays) put.here
          ∙ ap (λ es. es ++ e ∷ []) (listed-stay f g order before.busy order-stays)

  -- the entry at a place, and how many there are
  pub entry-at : (f : ℕ → Option E) (is : List ℕ) (k i : ℕ) (e : E) (es : List E) → AreBusy f lanes is → listed f is ≡ es → k < length is
      → i ≡ get_or is k i → f i ≡ Some e → e ≡ get_or es k e
  entry-at f is k i e es b same lt at s = rw (← same) (sym (get_or-listed f is k i e e b lt at s))

  pub length-same : (f : ℕ → Option E) (is : List ℕ) (es : List E) → AreBusy f lanes is → listed f is ≡ es → length es ≡ length is
  length-same f is es b same = rw (← same) (length-listed f is b)

  -- an entry leaves a slot
  module _ (f g : ℕ → Option E) (order free : List ℕ) (k i : ℕ) (e : E) (before : AreListed lanes f order free)
      (lt : k < length order) (at : i ≡ get_or order k i) (was : f i ≡ Some e) (out : IsWritten lanes i None f g) where
    others-stay : (j : ℕ) → j < lanes → IsIn j (remove order k) → g j ≡ f j
    others-stay j l h = out.others j l (λ same. gone i k order lt at before.apart (subst (λ (x : ℕ). IsIn x (remove order k)) same h))

    not_in_free : IsIn i free → ⊥
    not_in_free h = let n = idle-in f free i before.idle h in cc

    free-stays : (j : ℕ) → j < lanes → IsIn j free → g j ≡ f j
    free-stays j l h = out.others j l (λ same. not_in_free (subst (λ (x : ℕ). IsIn x free) same h))

    others_all : (j : ℕ) → j < lanes → IsBusy g j → IsIn j (remove order k)
    others_all j l s =
        let other : j ≡ i → ⊥ = λ same. let here = out.here in let s' : g i ≡ Some s.0 = rw (← same) s.1 in cc in
        in-remove j i k order lt at (before.all j l (s.0, sym (out.others j l other) ∙ s.1)) other

    pub left : AreListed lanes g (remove order k) (free ++ i ∷ [])
    left = record {
      busy = busy-stay f g (remove order k) (busy-remove f order k before.busy) others-stay;
      idle = idle-push g free i (idle-stay f g free before.idle free-stays) (busy-at f order k i before.busy lt at).0 out.here;
      apart = apart-remove k order before.apart;
      apart_free = apart-push i free before.apart_free not_in_free;
      all = others_all;
      count = omega (arith, before.count, length-removed k order lt, length-append free (i ∷ []));
    }

    pub listed-left : listed g (remove order k) ≡ remove (listed f order) k
    listed-left =
        listed-stay f g (remove order k) (busy-remove f order k before.busy) others-stay ∙ listed-remove f order k before.busy lt

  -- all entries are advanced
  module _ (f g : ℕ → Option E) (h : E → E) (advanced : (i : ℕ) → i < lanes → g i ≡ option_map h (f i)) where
    was-some : (o : Option E) (e : E) → option_map h o ≡ Some e → (x : E) × (o ≡ Some x)
    was-some None e s = absurd (cc)
    was-some (Some x) e s = (x, refl)

    busy-advanced : (is : List ℕ) → AreBusy f lanes is → AreBusy g lanes is
    busy-advanced [] b = tt
    busy-advanced (i ∷ is) b = (b.0, (h b.1.0, advanced i b.0 ∙ ap (option_map h) b.1.1), busy-advanced is b.2)

    idle-advanced : (is : List ℕ) → AreIdle f lanes is → AreIdle g lanes is
    idle-advanced [] b = tt
    idle-advanced (i ∷ is) b = (b.0, advanced i b.0 ∙ ap (option_map h) b.1, idle-advanced is b.2)

    pub listed-advanced : (is : List ℕ) → AreBusy f lanes is → listed g is ≡ map h (listed f is)
    listed-advanced [] b = refl
    listed-advanced (i ∷ is) b = rw (advanced i b.0, b.1.1) (ap (λ es. h b.1.0 ∷ es) (listed-advanced is b.2))

    pub all-advanced : (order free : List ℕ) → AreListed lanes f order free → AreListed lanes g order free
    all-advanced order free before = record {
      busy = busy-advanced order before.busy;
      idle = idle-advanced free before.idle;
      apart = before.apart;
      apart_free = before.apart_free;
      all = λ i l s. before.all i l (was-some (f i) s.0 (sym (advanced i l) ∙ s.1));
      count = before.count;
    }

  -- the least rest
  pub some-busy : (f : ℕ → Option E) (is : List ℕ) → AreBusy f lanes is → 0 < length (listed f is) → (i : ℕ) × (i < lanes) × IsBusy f i
  some-busy f [] b lt = absurd (omega arith)
  some-busy f (i ∷ is) b lt = (i, b.0, b.1)

  module _ (rest : E → ℕ) (f : ℕ → Option E) (n : ℕ) where
    above : (is : List ℕ) (m : ℕ) → AreBusy f lanes is → ((i : ℕ) (e : E) → i < lanes → f i ≡ Some e → n ≤ rest e) → n ≤ m → n ≤ least_from rest m (listed f is)
    above [] m b below le = le
    above (i ∷ is) m b below le =
        rw b.1.1 (above is (min m (rest b.1.0)) b.2 below (omega (arith, below i b.1.0 b.0 b.1.1)))

    from-in : (is : List ℕ) (m i : ℕ) (e : E) → AreBusy f lanes is → IsIn i is → f i ≡ Some e → least_from rest m (listed f is) ≤ rest e
    from-in [] m i e b h s = absurd h
    from-in (j ∷ is) m i e b h s =
        elim h [
          | inl same ↦ let s' : f j ≡ Some e = rw same at s in rw s' (omega (arith, least_from-le rest (min m (rest e)) (listed f is)))
          | inr l ↦ rw b.1.1 (from-in is (min m (rest b.1.0)) i e b.2 l s)
        ]

    least-in : (is : List ℕ) (i : ℕ) (e : E) → AreBusy f lanes is → IsIn i is → f i ≡ Some e → least rest (listed f is) ≤ rest e
    least-in [] i e b h s = absurd h
    least-in (j ∷ is) i e b h s =
        elim h [
          | inl same ↦ let s' : f j ≡ Some e = rw same at s in rw s' (least_from-le rest (rest e) (listed f is))
          | inr l ↦ rw b.1.1 (from-in is (rest b.1.0) i e b.2 l s)
        ]

    least-above : (is : List ℕ) → AreBusy f lanes is → 0 < length (listed f is) → ((i : ℕ) (e : E) → i < lanes → f i ≡ Some e → n ≤ rest e)
        → n ≤ least rest (listed f is)
    least-above [] b lt below = absurd (omega arith)
    least-above (i ∷ is) b lt below = rw b.1.1 (above is (rest b.1.0) b.2 below (below i b.1.0 b.0 b.1.1))

    pub least-listed : (order free : List ℕ) → AreListed lanes f order free → 0 < length (listed f order) → IsLeast rest lanes f n
        → n ≡ least rest (listed f order)
    least-listed order free before lt is =
        let met = is.met in
        let i = met.0 in let e = met.1 in
        let low = least-in order i e before.busy (before.all i met.2 (e, met.3)) met.3 in
        let same = met.4 in
        let high = least-above order before.busy lt is.below in
        omega (arith, low, high, same)
