-- The blocks that the MAC is over, by their numbers.
use Rattle.std.proofs.Common.{◌≡◌, ℕ, ◌+◌, ◌-◌, ◌*◌, ◌/◌, ◌<◌, List, [], ◌∷◌, ◌++◌, length, take, drop, get_or, refl, sym, ap, ◌∙◌, arith, length-append}
use Rattle.std.specs.Int.{bytes_high_first}
use Rattle.std.proofs.lemmas.Bool.{ne_eqb}
use Rattle.std.proofs.lemmas.List.{drop-drop, get_or-map, get_or_append_left, get_or-append-add, length-map}
use Rattle.mbj_types.specs.Blocks.{blocks, filled_block, filled_blocks}
use Rattle.mbj_types.specs.Ccm.{first_block, encoded_data, ccm_blocks}
use Rattle.mbj_types.specs.Rounds.{data_rounds, ccm_rounds}
use Rattle.mbj_blocks.specs.Places.{block_of}
use Rattle.mbj_blocks.proofs.Blocks.{length-blocks, get_or-blocks}

-- ---- the filled blocks of a part

length-filled_blocks : (part : List ℕ) → length (filled_blocks part) ≡ (length part + 15) / 16
length-filled_blocks part = length-map (blocks part) filled_block ∙ length-blocks part

pub get_or-filled_blocks : (part : List ℕ) (i : ℕ) → 16 * i < length part
    → get_or (filled_blocks part) i [] ≡ filled_block (block_of part i)
get_or-filled_blocks part i h =
    get_or-map filled_block (blocks part) i [] [] (omega (arith, length-blocks part))
    ∙ ap filled_block (get_or-blocks part i h)

-- ---- additional data

data_rounds-some : (n : ℕ) → 0 < n → data_rounds n ≡ (n + 2 + 15) / 16
data_rounds-some n h = rw (ne_eqb n 0 (λ z. omega (arith, z))) refl

-- as many blocks as rounds
length-data_blocks : (aad : List ℕ) → length (filled_blocks (encoded_data aad)) ≡ data_rounds (length aad)
length-data_blocks [] = length-filled_blocks []
length-data_blocks (x ∷ aad) =
    length-filled_blocks (encoded_data (x ∷ aad))
    ∙ omega (arith, data_rounds-some (length (x ∷ aad)) (omega arith))

-- its first block
pub data_block-first : (aad : List ℕ) → 0 < data_rounds (length aad)
    → get_or (filled_blocks (encoded_data aad)) 0 [] ≡ filled_block (bytes_high_first 2 (length aad) ++ take 14 aad)
data_block-first [] h = absurd (omega arith)
data_block-first (x ∷ aad) h = get_or-filled_blocks (encoded_data (x ∷ aad)) 0 (omega arith)

-- each of the others
pub data_block-other : (aad : List ℕ) (i : ℕ) → 0 < i → i < data_rounds (length aad)
    → get_or (filled_blocks (encoded_data aad)) i [] ≡ filled_block (take 16 (drop (16 * i - 2) aad))
data_block-other [] i some h = absurd (omega arith)
data_block-other (x ∷ aad) i some h =
    let all : List ℕ = encoded_data (x ∷ aad) in
    let place : 16 * i ≡ 2 + (16 * i - 2) = omega arith in
    get_or-filled_blocks all i (omega (arith, data_rounds-some (length (x ∷ aad)) (omega arith)))
    ∙ ap (λ (n : ℕ). filled_block (take 16 (drop n all))) place
    ∙ ap (λ ys. filled_block (take 16 ys)) (sym (drop-drop (16 * i - 2) 2 all))

-- ---- all blocks

module _ (nonce aad text : List ℕ) (tag_len : ℕ) where
  abbrev front : List ℕ
  front = first_block nonce aad (length text) tag_len

  abbrev data_blocks : List (List ℕ)
  data_blocks = filled_blocks (encoded_data aad)

  pub length-ccm_blocks : length (ccm_blocks nonce aad text tag_len) ≡ ccm_rounds (length aad) (length text)
  length-ccm_blocks =
      length-append (front ∷ data_blocks) (filled_blocks text)
      ∙ omega (arith, length-data_blocks aad, length-filled_blocks text)

  pub block-data : (i : ℕ) → i < data_rounds (length aad)
      → get_or (ccm_blocks nonce aad text tag_len) (1 + i) [] ≡ get_or data_blocks i []
  block-data i h =
      get_or-append-add (front ∷ []) (data_blocks ++ filled_blocks text) i []
      ∙ get_or_append_left data_blocks (filled_blocks text) [] i (omega (arith, length-data_blocks aad))

  pub block-text : (i : ℕ)
      → get_or (ccm_blocks nonce aad text tag_len) (1 + data_rounds (length aad) + i) [] ≡ get_or (filled_blocks text) i []
  block-text i =
      let place : 1 + data_rounds (length aad) + i ≡ length (front ∷ data_blocks) + i = omega (arith, length-data_blocks aad) in
      ap (λ (n : ℕ). get_or (ccm_blocks nonce aad text tag_len) n []) place
      ∙ get_or-append-add (front ∷ data_blocks) (filled_blocks text) i []
