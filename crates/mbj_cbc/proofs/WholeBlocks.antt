-- Texts of whole blocks of bytes.
use Rattle.std.proofs.Common.{◌≡◌, ℕ, zero, suc, ◌+◌, ◌*◌, ◌/◌, ◌%◌, ◌<◌, List, [], ◌∷◌, ◌++◌, length, take, drop, refl, ap, ap₂, ◌∙◌, arith, length-drop, length-append}
use Rattle.std.specs.List.{All, concat}
use Rattle.std.proofs.lemmas.List.{length-take-le, take_at, drop_at}
use Rattle.std.proofs.lemmas.List.Elements.{All-cons, All-drop, All-head, All-nil, All-tail, All-take}
use Rattle.mbj_types.specs.Blocks.{first_blocks, blocks}
use Rattle.mbj_aes.specs.Bytes.{IsBytes, IsBlock}
use Rattle.mbj_blocks.proofs.Blocks.{blocks-nil, blocks-cons}

-- the blocks of joined blocks are those blocks
pub blocks-concat : (parts : List (List ℕ)) → All IsBlock parts → blocks (concat parts) ≡ parts
blocks-concat [] h = blocks-nil [] refl
blocks-concat (b ∷ bs) h =
    let size : length b ≡ 16 = (All-head IsBlock b bs h).size in
    blocks-cons (b ++ concat bs) (omega (arith, length-append b (concat bs)))
    ∙ ap₂ (λ x xs. x ∷ xs) (take_at b (concat bs) 16 size)
    (ap blocks (drop_at b (concat bs) 16 size) ∙ blocks-concat bs (All-tail IsBlock b bs h))

All-first_blocks : (n : ℕ) (text : List ℕ) → length text ≡ 16 * n → IsBytes text → All IsBlock (first_blocks n text)
All-first_blocks zero text h k = All-nil IsBlock
All-first_blocks (suc n) text h k =
    All-cons IsBlock (take 16 text) (first_blocks n (drop 16 text))
    (record { size = length-take-le 16 text (omega arith); bytes = All-take (λ x. x < 256) 16 text k })
    (All-first_blocks n (drop 16 text) (omega (arith, length-drop 16 text)) (All-drop (λ x. x < 256) 16 text k))

-- whole blocks of bytes
pub All-blocks : (text : List ℕ) → length text % 16 ≡ 0 → IsBytes text → All IsBlock (blocks text)
unfolding blocks
All-blocks text h k = All-first_blocks ((length text + 15) / 16) text (omega arith) k
