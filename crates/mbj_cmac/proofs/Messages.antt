-- The blocks of a message of CMAC, the last one closed.
use Rattle.std.proofs.Common.{◌≡◌, ℕ, suc, ◌+◌, ◌-◌, ◌*◌, ◌<◌, ◌≤◌, List, [], ◌∷◌, ◌++◌, length, drop, replicate, slice_set, refl, sym, ap, ap₂, ◌∙◌, arith, length-drop}
use Rattle.std.proofs.lemmas.List.{take_all, drop_all, set_at}
use Rattle.mbj_types.specs.Blocks.{blocks, filled_block}
use Rattle.mbj_types.specs.Cmac.{closed, closed_block, message_blocks}
use Rattle.mbj_blocks.specs.Places.{block_of}
use Rattle.mbj_blocks.proofs.Blocks.{blocks-nil, blocks-cons, blocks-drop}

-- a message that isn't empty has the blocks of a text
message_blocks-some : (m : List ℕ) → 0 < length m → message_blocks m ≡ blocks m
message_blocks-some [] h = absurd (omega arith)
message_blocks-some (x ∷ m) h = refl

-- block i, with more bytes behind it, stays as it is
pub closed-more : (e : List ℕ → List ℕ) (m : List ℕ) (i : ℕ) → 16 * (i + 1) < length m
    → closed e (message_blocks (drop (16 * i) m)) ≡ block_of m i ∷ closed e (message_blocks (drop (16 * (i + 1)) m))
closed-more e m i h =
    let now : message_blocks (drop (16 * i) m) ≡ block_of m i ∷ blocks (drop (16 * (i + 1)) m) =
    message_blocks-some (drop (16 * i) m) (omega (arith, length-drop (16 * i) m)) ∙ blocks-drop m i (omega arith) in
    let next : blocks (drop (16 * (i + 1)) m) ≡ block_of m (i + 1) ∷ blocks (drop (16 * (i + 1 + 1)) m) =
    blocks-drop m (i + 1) h in
    let same : blocks (drop (16 * (i + 1)) m) ≡ message_blocks (drop (16 * (i + 1)) m) =
    sym (message_blocks-some (drop (16 * (i + 1)) m) (omega (arith, length-drop (16 * (i + 1)) m))) in
    ap (closed e) (now ∙ ap (λ bs. block_of m i ∷ bs) next)
    ∙ ap (λ bs. block_of m i ∷ closed e bs) (sym next ∙ same)

-- at most 16 bytes are one block, which is closed
pub closed-last : (e : List ℕ → List ℕ) (m : List ℕ) → length m ≤ 16
    → closed e (message_blocks m) ≡ closed_block e m ∷ []
closed-last e [] h = refl
closed-last e (x ∷ m) h =
    ap (closed e) (blocks-cons (x ∷ m) (omega arith)
    ∙ ap₂ (λ b bs. b ∷ bs) (take_all 16 (x ∷ m) h) (ap blocks (drop_all 16 (x ∷ m) h) ∙ blocks-nil [] refl))

-- a bit 1 is put behind the bytes of a block that isn't whole
pub padded : (p : List ℕ) → length p < 16
    → slice_set (filled_block p) (length p) 0x80 ≡ p ++ 0x80 ∷ replicate (15 - length p) 0
padded p h =
    let zero_byte : ℕ = 0 in
    let more : 16 - length p ≡ suc (15 - length p) = omega arith in
    ap (λ (n : ℕ). slice_set (p ++ replicate n zero_byte) (length p) 0x80) more
    ∙ set_at p zero_byte (replicate (15 - length p) zero_byte) 0x80 (length p) refl
