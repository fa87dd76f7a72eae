-- The blocks of a text: one after another, and joined again.
use Rattle.std.proofs.Common.{◌≡◌, ℕ, zero, suc, ◌+◌, ◌*◌, ◌/◌, ◌<◌, ◌≤◌, inl, inr, List, [], ◌∷◌, ◌++◌, length, take, drop, get_or, refl, sym, ap, ap₂, ◌∙◌, arith, length-drop, length-append, append-nil}
use Rattle.std.specs.List.{concat}
use Rattle.std.proofs.lemmas.Bool.{cases_lt}
use Rattle.std.proofs.lemmas.List.{take_all, drop_all, take_at, drop_at, drop-drop, take-append-drop}
use Rattle.mbj_types.specs.Blocks.{first_blocks, blocks}
use Rattle.mbj_blocks.specs.Places.{block_of}

-- the empty text has no block
pub blocks-nil : (text : List ℕ) → length text ≡ 0 → blocks text ≡ []
unfolding blocks
blocks-nil text h =
    let none : (length text + 15) / 16 ≡ 0 = omega arith in
    ap (λ (n : ℕ). first_blocks n text) none

-- the first block of a text, and those of what follows it
pub blocks-cons : (text : List ℕ) → 0 < length text → blocks text ≡ take 16 text ∷ blocks (drop 16 text)
unfolding blocks
blocks-cons text h =
    let more : (length text + 15) / 16 ≡ suc ((length (drop 16 text) + 15) / 16) = omega (arith, length-drop 16 text) in
    ap (λ (n : ℕ). first_blocks n text) more

-- at most 16 bytes, whole unless nothing follows, are the first block
pub blocks-append : (x rest : List ℕ) → 0 < length x → length x ≤ 16 → (length x < 16 → rest ≡ [])
    → blocks (x ++ rest) ≡ x ∷ blocks rest
blocks-append x rest some most last =
    blocks-cons (x ++ rest) (omega (arith, length-append x rest))
    ∙ elim (cases_lt (length x) 16) [
      | inl less ↦
          let none : rest ≡ [] = last less in
          let alone : x ++ rest ≡ x = ap (λ ys. x ++ ys) none ∙ append-nil x in
          ap₂ (λ b bs. b ∷ bs) (ap (take 16) alone ∙ take_all 16 x most)
          (ap blocks (ap (drop 16) alone ∙ drop_all 16 x most ∙ sym none))
      | inr whole ↦
          ap₂ (λ b bs. b ∷ bs) (take_at x rest 16 (omega arith)) (ap blocks (drop_at x rest 16 (omega arith)))
    ]

-- block i of a text, and those that follow it
pub blocks-drop : (text : List ℕ) (i : ℕ) → 16 * i < length text
    → blocks (drop (16 * i) text) ≡ block_of text i ∷ blocks (drop (16 * (i + 1)) text)
blocks-drop text i h =
    let next : 16 * i + 16 ≡ 16 * (i + 1) = omega arith in
    blocks-cons (drop (16 * i) text) (omega (arith, length-drop (16 * i) text))
    ∙ ap (λ rest. block_of text i ∷ blocks rest) (drop-drop 16 (16 * i) text ∙ ap (λ (n : ℕ). drop n text) next)

concat-first_blocks : (n : ℕ) (text : List ℕ) → length text ≤ 16 * n → concat (first_blocks n text) ≡ text
concat-first_blocks zero text h = sym (drop_all 0 text (omega arith))
concat-first_blocks (suc n) text h =
    ap (λ rest. take 16 text ++ rest) (concat-first_blocks n (drop 16 text) (omega (arith, length-drop 16 text)))
    ∙ take-append-drop 16 text

-- the blocks of a text, joined, are the text
pub concat-blocks : (text : List ℕ) → concat (blocks text) ≡ text
unfolding blocks
concat-blocks text = concat-first_blocks ((length text + 15) / 16) text (omega arith)

-- ---- how many there are, and each of them

pub length-first_blocks : (n : ℕ) (text : List ℕ) → length (first_blocks n text) ≡ n
length-first_blocks zero text = refl
length-first_blocks (suc n) text = ap suc (length-first_blocks n (drop 16 text))

pub length-blocks : (text : List ℕ) → length (blocks text) ≡ (length text + 15) / 16
unfolding blocks
length-blocks text = length-first_blocks ((length text + 15) / 16) text

get_or-first_blocks : (n i : ℕ) (text : List ℕ) → i < n → get_or (first_blocks n text) i [] ≡ block_of text i
get_or-first_blocks zero i text h = absurd (omega arith)
get_or-first_blocks (suc n) zero text h = refl
get_or-first_blocks (suc n) (suc i) text h =
    let place : 16 + 16 * i ≡ 16 * suc i = omega arith in
    get_or-first_blocks n i (drop 16 text) (omega arith)
    ∙ ap (take 16) (drop-drop (16 * i) 16 text ∙ ap (λ (m : ℕ). drop m text) place)

pub get_or-blocks : (text : List ℕ) (i : ℕ) → 16 * i < length text → get_or (blocks text) i [] ≡ block_of text i
unfolding blocks
get_or-blocks text i h = get_or-first_blocks ((length text + 15) / 16) i text (omega arith)
