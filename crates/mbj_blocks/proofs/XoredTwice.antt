-- A text that is xored with the same blocks twice is as it was.
use Rattle.std.proofs.Common.{◌≡◌, ℕ, zero, suc, ◌-◌, ◌*◌, ◌≤◌, inl, inr, min, List, [], ◌∷◌, ◌++◌, length, take, drop, refl, sym, ap, ap₂, ◌∙◌, arith, length-drop}
use Rattle.std.specs.List.{concat}
use Rattle.std.proofs.lemmas.Bool.{cases_lt}
use Rattle.std.proofs.lemmas.List.{drop_all, length-take, take-append-drop}
use Rattle.mbj_types.specs.Blocks.{xor_lists, blocks}
use Rattle.mbj_types.proofs.XorLists.{length-xor_lists, xor_lists_twice}
use Rattle.mbj_blocks.proofs.Blocks.{blocks-nil, blocks-cons, blocks-append}

-- xoring goes from place to place: `xored` at a place xors the first block with the mask of that place, and the others from the next
-- place on
module _ {S : Type 0} (next : S → S) (mask : S → List ℕ) (xored : S → List (List ℕ) → List (List ℕ))
    (none : (s : S) → xored s [] ≡ [])
    (some : (s : S) (p : List ℕ) (ps : List (List ℕ)) → xored s (p ∷ ps) ≡ xor_lists p (mask s) ∷ xored (next s) ps)
    (whole : (s : S) → length (mask s) ≡ 16) where
  abbrev text_xored : S → List ℕ → List ℕ
  text_xored s text = concat (xored s (blocks text))

  -- a text of no bytes has nothing to xor
  xored-none : (s : S) (text : List ℕ) → length text ≡ 0 → text_xored s text ≡ []
  xored-none s text h = ap (λ bs. concat (xored s bs)) (blocks-nil text h) ∙ ap concat (none s)

  twice-none : (s : S) (text : List ℕ) → length text ≡ 0 → text_xored s (text_xored s text) ≡ text
  twice-none s text h =
      ap (text_xored s) (xored-none s text h) ∙ xored-none s [] refl ∙ sym (drop_all 0 text (omega arith))

  -- a text of at most n blocks
  twice : (n : ℕ) (s : S) (text : List ℕ) → length text ≤ 16 * n → text_xored s (text_xored s text) ≡ text
  twice zero s text h = twice-none s text (omega arith)
  twice (suc n) s text h = elim (cases_lt 0 (length text)) [
    | inl more ↦
        let first : List ℕ = take 16 text in
        let left : List ℕ = drop 16 text in
        let m : List ℕ = mask s in
        let x : List ℕ = xor_lists first m in
        let rest : List ℕ = text_xored (next s) left in
        let mask_size : length m ≡ 16 = whole s in
        let first_size : length first ≡ min 16 (length text) = length-take 16 text in
        let left_size : length left ≡ length text - 16 = length-drop 16 text in
        let x_size : length x ≡ length first = length-xor_lists first m (omega arith) in
        let once : text_xored s text ≡ x ++ rest =
        ap (λ bs. concat (xored s bs)) (blocks-cons text more) ∙ ap concat (some s first (blocks left)) in
        let cut : blocks (x ++ rest) ≡ x ∷ blocks rest =
        blocks-append x rest (omega arith) (omega arith) (λ less. xored-none (next s) left (omega arith)) in
        ap (text_xored s) once
        ∙ ap (λ bs. concat (xored s bs)) cut
        ∙ ap concat (some s x (blocks rest))
        ∙ ap₂ (λ ys zs. ys ++ zs) (xor_lists_twice first m (omega arith)) (twice n (next s) left (omega arith))
        ∙ take-append-drop 16 text
    | inr nothing ↦ twice-none s text (omega arith)
  ]

  pub text_xored-twice : (s : S) (text : List ℕ) → text_xored s (text_xored s text) ≡ text
  text_xored-twice s text = twice (length text) s text (omega arith)
