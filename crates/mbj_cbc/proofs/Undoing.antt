-- CBC decryption undoes CBC encryption, block by block.
use Rattle.std.proofs.Common.{◌≡◌, ℕ, List, [], ◌∷◌, refl, ap, ap₂, ◌∙◌, arith}
use Rattle.std.specs.List.{All, concat}
use Rattle.std.proofs.lemmas.List.Elements.{All-cons, All-head, All-nil, All-tail}
use Rattle.mbj_types.specs.Aes.{aes, aes_inverse}
use Rattle.mbj_types.specs.Blocks.{xor_lists, blocks}
use Rattle.mbj_types.specs.Modes.{cbc, uncbc}
use Rattle.mbj_aes.specs.Bytes.{IsBlock, IsKey}
use Rattle.mbj_aes.proofs.AesLaws.{decryption_undoes, encryption_keeps}
use Rattle.mbj_types.proofs.XorLists.{xor_lists_twice}
use Rattle.mbj_aes.proofs.XorLists.{IsBlock-xor_lists}
use Rattle.mbj_blocks.proofs.Blocks.{concat-blocks}
use Rattle.mbj_cbc.proofs.WholeBlocks.{blocks-concat, All-blocks}
use Rattle.mbj_cbc.specs.Laws.{DecryptionUndoesCbc}

-- the ciphertext of one block is a block
IsBlock-sealed : (key c p : List ℕ) → IsKey key → IsBlock c → IsBlock p → IsBlock (aes key (xor_lists p c))
IsBlock-sealed key c p k h b = encryption_keeps key (xor_lists p c) k (IsBlock-xor_lists p c b h)

-- encryption makes blocks of blocks
All-cbc : (key c : List ℕ) (parts : List (List ℕ)) → IsKey key → IsBlock c → All IsBlock parts
    → All IsBlock (cbc (aes key) c parts)
All-cbc key c [] k h a = All-nil IsBlock
All-cbc key c (p ∷ ps) k h a =
    let sealed : List ℕ = aes key (xor_lists p c) in
    let b : IsBlock sealed = IsBlock-sealed key c p k h (All-head IsBlock p ps a) in
    All-cons IsBlock sealed (cbc (aes key) sealed ps) b (All-cbc key sealed ps k b (All-tail IsBlock p ps a))

-- blocks that are encrypted and decrypted are as they were
uncbc-cbc : (key c : List ℕ) (parts : List (List ℕ)) → IsKey key → IsBlock c → All IsBlock parts
    → uncbc (aes_inverse key) c (cbc (aes key) c parts) ≡ parts
uncbc-cbc key c [] k h a = refl
uncbc-cbc key c (p ∷ ps) k h a =
    let sealed : List ℕ = aes key (xor_lists p c) in
    let b : IsBlock p = All-head IsBlock p ps a in
    let opened : xor_lists (aes_inverse key sealed) c ≡ p =
    ap (λ x. xor_lists x c) (decryption_undoes key (xor_lists p c) k (IsBlock-xor_lists p c b h))
    ∙ xor_lists_twice p c (omega arith) in
    ap₂ (λ x xs. x ∷ xs) opened (uncbc-cbc key sealed ps k (IsBlock-sealed key c p k h b) (All-tail IsBlock p ps a))

-- the law, for texts
pub cbc_undone : DecryptionUndoesCbc
cbc_undone key iv text k h b whole =
    let parts : All IsBlock (blocks text) = All-blocks text whole b in
    ap (λ bs. concat (uncbc (aes_inverse key) iv bs))
    (blocks-concat (cbc (aes key) iv (blocks text)) (All-cbc key iv (blocks text) k h parts))
    ∙ ap concat (uncbc-cbc key iv (blocks text) k h parts)
    ∙ concat-blocks text
