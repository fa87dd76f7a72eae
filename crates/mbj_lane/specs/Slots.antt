-- Entries that stand in slots, and an order of slots. A function says what stands in each slot.
use Rattle.std.specs.Prelude.{◌≡◌, ℕ, ◌+◌, ◌<◌, ◌≤◌, ◌⊎◌, List, [], ◌∷◌, length, map, Option, Some, None}

-- an entry before others, if there is one
abbrev pub joined : {E : Type 0} → Option E → List E → List E
joined None es = es
joined (Some e) es = e ∷ es

-- what stands in some slots, in their order
abbrev pub listed : {E : Type 0} → (ℕ → Option E) → List ℕ → List E
listed f [] = []
listed f (i ∷ is) = joined (f i) (listed f is)

-- slots, each with the place of a job in the ring of whoever has these entries
abbrev pub slots_of : List (ℕ × ℕ) → List ℕ
slots_of order = map (λ (s : ℕ × ℕ). s.0) order

abbrev pub places_of : List (ℕ × ℕ) → List ℕ
places_of order = map (λ (s : ℕ × ℕ). s.1) order

-- entries in their order, and the place of each
pub record Placed (E : Type 0) : Type 0 where
  pub entries : List E
  pub places : List ℕ

abbrev pub no_entries : {E : Type 0} → Placed E
no_entries = record { entries = []; places = [] }

-- what stands in slots with places, in their order
abbrev pub placed : {E : Type 0} → (ℕ → Option E) → List (ℕ × ℕ) → Placed E
placed f order = record { entries = listed f (slots_of order); places = places_of order }

-- an entry stands in a slot
abbrev pub IsBusy : {E : Type 0} → (ℕ → Option E) → ℕ → Type 0
IsBusy {E} f i = (e : E) × (f i ≡ Some e)

abbrev pub AreBusy : {E : Type 0} → (ℕ → Option E) → ℕ → List ℕ → Type 0
AreBusy f lanes [] = Unit {0}
AreBusy f lanes (i ∷ is) = (i < lanes) × IsBusy f i × AreBusy f lanes is

abbrev pub AreIdle : {E : Type 0} → (ℕ → Option E) → ℕ → List ℕ → Type 0
AreIdle f lanes [] = Unit {0}
AreIdle f lanes (i ∷ is) = (i < lanes) × (f i ≡ None) × AreIdle f lanes is

abbrev pub IsIn : ℕ → List ℕ → Type 0
IsIn i [] = ⊥
IsIn i (j ∷ is) = (i ≡ j) ⊎ IsIn i is

-- no number stands twice
abbrev pub AreApart : List ℕ → Type 0
AreApart [] = Unit {0}
AreApart (i ∷ is) = (IsIn i is → ⊥) × AreApart is

-- the slots in which an entry stands are listed once each, and so are the others
pub record AreListed {E : Type 0} (lanes : ℕ) (f : ℕ → Option E) (order free : List ℕ) : Type 0 where
  pub busy : AreBusy f lanes order
  pub idle : AreIdle f lanes free
  pub apart : AreApart order
  pub apart_free : AreApart free
  pub all : (i : ℕ) → i < lanes → IsBusy f i → IsIn i order
  pub count : length order + length free ≡ lanes

-- one slot is written, and the others stay
pub record IsWritten {E : Type 0} (lanes i : ℕ) (o : Option E) (f g : ℕ → Option E) : Type 0 where
  pub here : g i ≡ o
  pub others : (j : ℕ) → j < lanes → (j ≡ i → ⊥) → g j ≡ f j

-- n is the least of the rests of all slots
pub record IsLeast {E : Type 0} (rest : E → ℕ) (lanes : ℕ) (f : ℕ → Option E) (n : ℕ) : Type 0 where
  pub below : (i : ℕ) (e : E) → i < lanes → f i ≡ Some e → n ≤ rest e
  pub met : (i : ℕ) × (e : E) × (i < lanes) × (f i ≡ Some e) × (n ≡ rest e)
