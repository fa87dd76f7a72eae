-- The looks of a hunt, one after another.
use Rattle.std.proofs.Common.{◌≡◌, ◌≢◌, ℕ, ◌+◌, ◌%◌, ◌<◌, ◌≤◌, List, [], ◌∷◌, ◌++◌, length, refl, sym, ap, ◌∙◌, arith, All, append-nil, length-append, append_assoc, subst, slice_index_or}
use Rattle.std.proofs.lemmas.List.Elements.{All-append}
use Rattle.mbj_core.specs.declared.party.View.{View}
use Rattle.mbj_core.specs.Parties.{view}
use Rattle.mbj_front.specs.Views.{after_look}
use Rattle.mbj_front.specs.declared.words.TheConstants.{READY}
use Rattle.mbj_work.specs.Hunts.{looks_round, after_looks, FindsReady, FindsNone}

all_with : {A : Type 0} (P : A → Type 0) (xs : List A) (x : A) → All P xs → P x → All P (xs ++ x ∷ [])
all_with P xs x all one = All-append P xs (x ∷ []) all (λ k d b. subst (λ (i : ℕ). P (slice_index_or (x ∷ []) i d)) (let e : 0 ≡ k = omega arith in e) one)

round_with : (cells at : ℕ) (words : List ℕ) (word : ℕ) → looks_round cells at (words ++ word ∷ []) ≡ looks_round cells at words ++ ((at + length words) % cells, word) ∷ []
round_with cells at [] word = ap (λ (n : ℕ). (n % cells, word) ∷ []) (let e : at ≡ at + length {A = ℕ} [] = omega arith in e)
round_with cells at (w ∷ words) word = ap (λ (l : List (ℕ × ℕ)). (at % cells, w) ∷ l)
    (round_with cells (at + 1) words word ∙ ap (λ (n : ℕ). looks_round cells (at + 1) words ++ (n % cells, word) ∷ []) (let e : at + 1 + length words ≡ at + length (w ∷ words) = omega arith in e))

-- so far i cells were looked at, and none was ready
abbrev pub Passed : {D : Type 0} → ℕ → ℕ → ℕ → View D → View D → Type 0
Passed cells at i v w = (words : List ℕ) × (length words ≡ i) × All (λ word. word ≢ READY) words × (w ≡ after_looks v (looks_round cells at words))

looks_on : {D : Type 0} (cells at i c word : ℕ) (v w u : View D) (p : Passed cells at i v w) → u ≡ after_look w c word → u ≡ after_looks v (looks_round cells at p.0 ++ (c, word) ∷ [])
looks_on cells at i c word v w u p is =
    is ∙ ap (λ x. after_look x c word) p.3
    ∙ ap (λ (l : List (ℕ × ℕ)). view v.number v.phase v.due v.handed v.hand l) (append_assoc v.looks (looks_round cells at p.0) ((c, word) ∷ []))

pub passes_on : {D : Type 0} (cells at i c word : ℕ) (v w u : View D) → Passed cells at i v w → c ≡ (at + i) % cells → u ≡ after_look w c word → word ≢ READY → Passed cells at (i + 1) v u
passes_on cells at i c word v w u p here is other = (
  p.0 ++ word ∷ [],
  length-append p.0 (word ∷ []) ∙ ap (λ (n : ℕ). n + 1) p.1,
  all_with (λ word. word ≢ READY) p.0 word p.2 other,
  looks_on cells at i c word v w u p is ∙ ap (λ (l : List (ℕ × ℕ)). after_looks v l)
      (ap (λ (n : ℕ). looks_round cells at p.0 ++ (n, word) ∷ []) (here ∙ ap (λ (k : ℕ). (at + k) % cells) (sym p.1)) ∙ sym (round_with cells at p.0 word)),
)

-- no cell was looked at yet
pub passes_none : {D : Type 0} (cells at : ℕ) (v : View D) → Passed cells at 0 v v
passes_none cells at v = (
  [],
  refl,
  λ k d below. absurd (omega (arith, below)),
  ap (λ (l : List (ℕ × ℕ)). view v.number v.phase v.due v.handed v.hand l) (sym (append-nil v.looks)),
)

-- all cells were looked at
pub finds_none : {D : Type 0} (cells all at i : ℕ) (v w : View D) → Passed cells at i v w → cells ≡ all → i ≤ cells → cells ≤ i → FindsNone all at v w
finds_none cells all at i v w p is most least =
    (p.0, (let e : length p.0 ≡ all = omega (arith, p.1, is) in e), p.2, p.3 ∙ ap (λ (n : ℕ). after_looks v (looks_round n at p.0)) is)

-- the next cell is ready
pub finds_one : {D : Type 0} (cells all at i c word : ℕ) (v w u : View D) → Passed cells at i v w → cells ≡ all → i < cells → c ≡ (at + i) % cells
    → u ≡ after_look w c word → word ≡ READY → FindsReady all at c v u
finds_one cells all at i c word v w u p is inside here looked ready = (
  p.0,
  (let e : length p.0 < all = omega (arith, p.1, is, inside) in e),
  p.2,
  here ∙ ap (λ (k : ℕ). (at + k) % cells) (sym p.1) ∙ ap (λ (n : ℕ). (at + length p.0) % n) is,
  looks_on cells at i c word v w u p looked ∙ ap (λ (n : ℕ). after_looks v (looks_round n at p.0 ++ (c, word) ∷ [])) is
      ∙ ap (λ (r : ℕ). after_looks v (looks_round all at p.0 ++ (c, r) ∷ [])) ready,
)
