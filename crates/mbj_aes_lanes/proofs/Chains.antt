-- Blocks that are chained in each entry, whose chaining values stay in the lanes.
use Rattle.std.proofs.Common.{◌≡◌, ℕ, zero, suc, ◌+◌, ◌-◌, ◌<◌, List, [], Option, Some, None, refl, sym, ap, ap₂, ◌∙◌, arith}
use Rattle.mbj_lane.specs.Rounds.{after}
use Rattle.mbj_lane.specs.Laws.{rest-after}
use Rattle.mbj_lane.proofs.Advanced.{after-one_more}
use Rattle.std.specs.Option.{option_map}
use Rattle.mbj_types.specs.Blocks.{xor_lists}
use Rattle.mbj_types.specs.Aes.{encipher}
use Rattle.mbj_aes_lanes.specs.Inside.Slots.{of_slot, HasRounds, IsKeyOf}
use Rattle.mbj_aes_lanes.specs.ChainedEntry.{next_chain, chained_once}

-- the laws of entries
pub record ChainLaws {E : Type 0} (key block chain : E → List ℕ) (rest : E → ℕ) (advanced kept : E → List ℕ → E) : Type 0 where
  pub takes : (e : E) (c : List ℕ) → chain (kept e c) ≡ c
  pub keeps_own : (e : E) → kept e (chain e) ≡ e
  pub keeps_last : (e : E) (b c : List ℕ) → kept (kept e b) c ≡ kept e c
  pub advances_rest : (e : E) (b c l : List ℕ) → kept (advanced (kept e b) c) l ≡ kept (advanced e c) l
  pub keeps_key : (e : E) (c : List ℕ) → key (kept e c) ≡ key e
  pub keeps_block : (e : E) (c : List ℕ) → block (kept e c) ≡ block e
  pub keeps_rest : (e : E) (c : List ℕ) → rest (kept e c) ≡ rest e
  pub advances_key : (e : E) (c : List ℕ) → key (advanced e c) ≡ key e
  pub falls : (e : E) (c : List ℕ) → rest (advanced e c) ≡ rest e - 1

-- n rounds advance the entry of a slot from o to now, but for its chaining value, which its lane has
abbrev pub IsLed : {E : Type 0} → (E → List ℕ) → (E → List ℕ) → (E → List ℕ) → (E → List ℕ → E) → (E → List ℕ → E)
    → ℕ → List ℕ → Option E → Option E → Type 0
IsLed key block chain advanced kept n c None None = Unit {0}
IsLed key block chain advanced kept n c None (Some x) = ⊥
IsLed key block chain advanced kept n c (Some e) None = ⊥
IsLed key block chain advanced kept n c (Some e) (Some x) =
    (kept x [] ≡ kept (after (chained_once key block chain advanced kept) n e) []) × (c ≡ chain (after (chained_once key block chain advanced kept) n e))

module _ {E : Type 0} (key block chain : E → List ℕ) (rest : E → ℕ) (advanced kept : E → List ℕ → E)
    (laws : ChainLaws key block chain rest advanced kept) where
  abbrev once : E → E
  once = chained_once key block chain advanced kept

  -- an entry without its chaining value
  abbrev bare : E → E
  bare e = kept e []

  pub once-falls : (e : E) → rest (once e) ≡ rest e - 1
  once-falls e = laws.keeps_rest (advanced e (next_chain key block chain e)) _ ∙ laws.falls e _

  -- the key stays
  pub key-after : (m : ℕ) (e : E) → key (after once m e) ≡ key e
  key-after zero e = refl
  key-after (suc m) e =
      key-after m (once e) ∙ laws.keeps_key (advanced e (next_chain key block chain e)) _ ∙ laws.advances_key e _

  -- none of them
  pub advanced-none : (c : List ℕ) (o : Option E) → c ≡ of_slot chain o → IsLed key block chain advanced kept 0 c o o
  advanced-none c None is = tt
  advanced-none c (Some e) is = (refl, is)

  -- the entry has a round left
  pub advanced-rest : (n m : ℕ) (c : List ℕ) (o now : Option E) → n < m → HasRounds rest m o → IsLed key block chain advanced kept n c o now → HasRounds rest 1 now
  advanced-rest n m c None None lt has advanced = tt
  advanced-rest n m c None (Some x) lt has advanced = absurd advanced
  advanced-rest n m c (Some e) None lt has advanced = absurd advanced
  advanced-rest n m c (Some e) (Some x) lt has advanced =
      let same : rest x ≡ rest (after once n e) =
      sym (laws.keeps_rest x []) ∙ ap rest advanced.0 ∙ laws.keeps_rest (after once n e) [] in
      omega (arith, same, rest-after once rest once-falls n e, has)

  -- one round more
  pub advanced-more : (n : ℕ) (c next w : List ℕ) (o now : Option E) → IsKeyOf key w o
      → next ≡ encipher w (xor_lists (of_slot block now) c) → IsLed key block chain advanced kept n c o now → IsLed key block chain advanced kept (n + 1) next o (option_map (λ e. advanced e next) now)
  advanced-more n c next w None None keyed made h = tt
  advanced-more n c next w None (Some x) keyed made h = absurd h
  advanced-more n c next w (Some e) None keyed made h = absurd h
  advanced-more n c next w (Some e) (Some x) keyed made h =
      let d : E = after once n e in
      let more : once d ≡ after once (n + 1) e = after-one_more once n e in
      let same_block : block x ≡ block d = sym (laws.keeps_block x []) ∙ ap block h.0 ∙ laws.keeps_block d [] in
      let is : next ≡ next_chain key block chain d =
      made ∙ ap₂ encipher (keyed ∙ sym (key-after n e)) (ap₂ xor_lists same_block h.1) in
      let chained : next ≡ chain (once d) = is ∙ sym (laws.takes (advanced d (next_chain key block chain d)) (next_chain key block chain d)) in (
        sym (laws.advances_rest x [] next [])
            ∙ ap (λ y. bare (advanced y next)) h.0
            ∙ laws.advances_rest d [] next []
            ∙ ap (λ c. bare (advanced d c)) is
            ∙ sym (laws.keeps_last (advanced d (next_chain key block chain d)) (next_chain key block chain d) [])
            ∙ ap bare more,
        chained ∙ ap chain more,
      )

  -- the entry keeps the chaining value of its lane
  pub advanced-kept : (n : ℕ) (c : List ℕ) (o now : Option E) → IsLed key block chain advanced kept n c o now → option_map (λ e. kept e c) now ≡ option_map (after once n) o
  advanced-kept n c None None h = refl
  advanced-kept n c None (Some x) h = absurd h
  advanced-kept n c (Some e) None h = absurd h
  advanced-kept n c (Some e) (Some x) h =
      let d : E = after once n e in
      ap (λ y. Some y)
      (sym (laws.keeps_last x [] c) ∙ ap (λ y. kept y c) h.0 ∙ laws.keeps_last d [] c ∙ ap (kept d) h.1 ∙ laws.keeps_own d)
