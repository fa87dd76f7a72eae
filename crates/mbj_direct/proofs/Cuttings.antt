-- Data that is cut into parts, and its tag.
use Rattle.std.proofs.Common.{◌≡◌, ℕ, List, [], ◌∷◌, ◌++◌, length, sym, ap, ap₂, ◌∙◌, subst, append-nil, append_assoc}
use Rattle.std.specs.List.{concat}
use Rattle.mbj_types.specs.Aes.{aes}
use Rattle.mbj_types.specs.Blocks.{filled_blocks, xor_lists, zero_block}
use Rattle.mbj_types.specs.Gcm.{bit_length, gmac}
use Rattle.mbj_types.specs.Ghash.{ghash}
use Rattle.mbj_direct.specs.declared.gmac.GmacState.{GmacState}
use Rattle.mbj_direct.specs.Gmac.{HasTakenData, TakesParts}
use Rattle.mbj_direct.specs.Hashed.{IsHashed}
use Rattle.mbj_direct.specs.Laws.{AnyCuttingGivesOneTag}
use Rattle.mbj_direct.proofs.States.{filled_blocks-none}

-- parts one after another are taken as what they are together
pub taken_together : (key iv so_far : List ℕ) (parts : List (List ℕ)) (s t : GmacState) → HasTakenData key iv so_far s
    → TakesParts parts s t → HasTakenData key iv (so_far ++ concat parts) t
taken_together key iv so_far [] s t h same =
    subst (λ (xs : List ℕ). HasTakenData key iv xs t) (sym (append-nil so_far)) (subst (λ (u : GmacState). HasTakenData key iv so_far u) same h)
taken_together key iv so_far (p ∷ ps) s t h steps =
    subst (λ (xs : List ℕ). HasTakenData key iv xs t) (append_assoc so_far p (concat ps))
    (taken_together key iv (so_far ++ p) ps steps.0 t (steps.1.0 key iv so_far h) steps.1.1)

pub any_cutting_of_data : AnyCuttingGivesOneTag
any_cutting_of_data key iv tag parts s t h steps gives = gives key iv (concat parts) (taken_together key iv [] parts s t h steps)

-- the tag
pub data_tag_is : (key iv aad : List ℕ) (s : GmacState) (hash : List ℕ) → HasTakenData key iv aad s
    → ((xs : List ℕ) → IsHashed [] xs s.hash
    → hash ≡ ghash s.hash.subkey (filled_blocks xs ++ (bit_length (length xs) ++ bit_length 0) ∷ []))
    → xor_lists s.mask hash ≡ gmac (aes key) iv aad
data_tag_is key iv aad s hash h hashed =
    let lengths : List (List ℕ) = (bit_length (length aad) ++ bit_length 0) ∷ [] in
    ap₂ xor_lists h.mask
    (hashed aad h.hashed
    ∙ ap (λ k. ghash k (filled_blocks aad ++ lengths)) h.subkey
    ∙ ap (λ bs. ghash (aes key zero_block) (bs ++ lengths))
    (sym (append-nil (filled_blocks aad)) ∙ ap (λ bs. filled_blocks aad ++ bs) (sym filled_blocks-none)))
