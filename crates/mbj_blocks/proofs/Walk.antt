-- A text that is worked on in place, block after block.
use Rattle.std.proofs.Common.{◌≡◌, ℕ, ◌+◌, ◌-◌, ◌*◌, ◌<◌, ◌≤◌, inl, inr, min, List, [], ◌∷◌, ◌++◌, length, take, drop, refl, sym, ap, ap₂, ◌∙◌, arith, length-drop, length-append, append-nil}
use Rattle.std.specs.List.{concat}
use Rattle.std.proofs.lemmas.List.{take_all, drop_all, append_assoc, length-take, take_at, drop_at}
use Rattle.std.proofs.lemmas.Bool.{cases_lt}
use Rattle.mbj_types.specs.Blocks.{xor_lists, blocks}
use Rattle.mbj_types.proofs.XorLists.{length-xor_lists}
use Rattle.mbj_blocks.specs.Places.{block_of, with_block}
use Rattle.mbj_blocks.specs.Walked.{Walked}
use Rattle.mbj_blocks.proofs.Blocks.{blocks-nil, blocks-drop}

-- the length of block i
pub length-block_of : (text : List ℕ) (i : ℕ) → length (block_of text i) ≡ min 16 (length text - 16 * i)
length-block_of text i = length-take 16 (drop (16 * i) text) ∙ ap (λ (n : ℕ). min 16 n) (length-drop (16 * i) text)

-- no block is left
pub walk_end : (rest : List (List ℕ) → List (List ℕ)) (text whole : List ℕ) (i : ℕ) → rest [] ≡ []
    → length text ≤ 16 * i → Walked rest text i whole → text ≡ whole
walk_end rest text whole i e h w =
    let none : blocks (drop (16 * i) text) ≡ [] = ap blocks (drop_all (16 * i) text h) ∙ blocks-nil [] refl in
    sym (append-nil text)
    ∙ ap₂ (λ xs ys. xs ++ ys) (sym (take_all (16 * i) text h)) (sym (ap (λ bs. concat (rest bs)) none ∙ ap concat e))
    ∙ w

-- with block i changed, the text up to its end and what follows it
around : (text ys : List ℕ) (i : ℕ) → 16 * i < length text → length ys ≡ min 16 (length text - 16 * i)
    → (take (16 * (i + 1)) (with_block text i ys) ≡ take (16 * i) text ++ ys)
    × (drop (16 * (i + 1)) (with_block text i ys) ≡ drop (16 * (i + 1)) text)
around text ys i h l =
    let done : List ℕ = take (16 * i) text ++ ys in
    let left : List ℕ = drop (16 * (i + 1)) text in
    let size : length done ≡ min (16 * (i + 1)) (length text) =
    length-append (take (16 * i) text) ys ∙ omega (arith, length-take (16 * i) text) in
    elim (cases_lt (length text) (16 * (i + 1))) [
      | inl less ↦
          let none : left ≡ [] = drop_all (16 * (i + 1)) text (omega arith) in
          let all : done ++ left ≡ done = ap (λ xs. done ++ xs) none ∙ append-nil done in (
            ap (take (16 * (i + 1))) all ∙ take_all (16 * (i + 1)) done (omega arith),
            ap (drop (16 * (i + 1))) all ∙ drop_all (16 * (i + 1)) done (omega arith) ∙ sym none,
          )
      | inr whole ↦ (take_at done left (16 * (i + 1)) (omega arith), drop_at done left (16 * (i + 1)) (omega arith))
    ]

-- what follows block i stays when that block becomes ys, which is as long
pub drop-with_block : (text ys after : List ℕ) (i : ℕ) → 16 * i < length text → length ys ≡ min 16 (length text - 16 * i)
    → after ≡ with_block text i ys → drop (16 * (i + 1)) after ≡ drop (16 * (i + 1)) text
drop-with_block text ys after i h l e = ap (drop (16 * (i + 1))) e ∙ (around text ys i h l).1

-- block i becomes ys, which is as long: what rest made of it and the others, next makes of the others
pub walk_step : (rest next : List (List ℕ) → List (List ℕ)) (text ys after whole : List ℕ) (i : ℕ) → 16 * i < length text
    → length ys ≡ min 16 (length text - 16 * i) → ((bs : List (List ℕ)) → rest (block_of text i ∷ bs) ≡ ys ∷ next bs)
    → after ≡ with_block text i ys → Walked rest text i whole → Walked next after (i + 1) whole
walk_step rest next text ys after whole i h l s e w =
    let sides = around text ys i h l in
    rw (e, sides.0, sides.1)
    (append_assoc (take (16 * i) text) ys (concat (next (blocks (drop (16 * (i + 1)) text))))
    ∙ ap (λ bs. take (16 * i) text ++ concat bs)
    (sym (ap rest (blocks-drop text i h) ∙ s (blocks (drop (16 * (i + 1)) text))))
    ∙ w)

-- block i is xored with a mask: what rest made of it and the others, next makes of the others
pub walk_xor : (rest next : List (List ℕ) → List (List ℕ)) (text mask after whole : List ℕ) (i : ℕ) → 16 * i < length text
    → length mask ≡ 16 → ((b : List ℕ) (bs : List (List ℕ)) → rest (b ∷ bs) ≡ xor_lists b mask ∷ next bs)
    → after ≡ with_block text i (xor_lists (block_of text i) mask) → Walked rest text i whole
    → Walked next after (i + 1) whole
walk_xor rest next text mask after whole i h m s e w =
    let block : List ℕ = block_of text i in
    let size : length block ≡ min 16 (length text - 16 * i) = length-block_of text i in
    walk_step rest next text (xor_lists block mask) after whole i h (length-xor_lists block mask (omega arith) ∙ size)
    (s block) e w

-- a walk that is at its end stays there
pub walk_over : (rest next : List (List ℕ) → List (List ℕ)) (text whole : List ℕ) (i j : ℕ) → rest [] ≡ [] → next [] ≡ []
    → length text ≤ 16 * i → length text ≤ 16 * j → Walked rest text i whole → Walked next text j whole
walk_over rest next text whole i j e f h k w =
    let none : blocks (drop (16 * j) text) ≡ [] = ap blocks (drop_all (16 * j) text k) ∙ blocks-nil [] refl in
    ap₂ (λ xs bs. xs ++ concat (next bs)) (take_all (16 * j) text k) none
    ∙ ap (λ bs. text ++ concat bs) f
    ∙ append-nil text
    ∙ walk_end rest text whole i e h w
