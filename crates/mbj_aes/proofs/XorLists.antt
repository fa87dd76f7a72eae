-- Bytes and blocks, one xored with another.
use Rattle.std.proofs.Common.{◌<◌, ℕ, List, [], ◌∷◌, bit_xor, ◌∙◌, arith}
use Rattle.std.proofs.lemmas.List.Elements.{All-cons, All-head, All-tail, All-nil}
use Rattle.std.proofs.lemmas.Nat.{xor_of_8}
use Rattle.mbj_types.specs.Blocks.{xor_lists}
use Rattle.mbj_types.proofs.XorLists.{length-xor_lists}
use Rattle.mbj_aes.specs.Bytes.{IsBytes, IsBlock}

-- bytes xored with bytes are bytes
pub IsBytes-xor_lists : (xs ys : List ℕ) → IsBytes xs → IsBytes ys → IsBytes (xor_lists xs ys)
IsBytes-xor_lists [] ys h k = All-nil (λ x. x < 256)
IsBytes-xor_lists (x ∷ xs) [] h k = All-nil (λ x. x < 256)
IsBytes-xor_lists (x ∷ xs) (y ∷ ys) h k =
    let P : ℕ → Type 0 = λ x. x < 256 in
    All-cons P (bit_xor x y) (xor_lists xs ys) (xor_of_8 x y (All-head P x xs h) (All-head P y ys k))
    (IsBytes-xor_lists xs ys (All-tail P x xs h) (All-tail P y ys k))

-- a block xored with a block is a block
pub IsBlock-xor_lists : (s k : List ℕ) → IsBlock s → IsBlock k → IsBlock (xor_lists s k)
IsBlock-xor_lists s k h g =
    record { size = length-xor_lists s k (omega arith) ∙ h.size; bytes = IsBytes-xor_lists s k h.bytes g.bytes }
