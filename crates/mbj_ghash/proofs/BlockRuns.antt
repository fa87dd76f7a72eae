-- The value of a hash after runs of blocks, and the blocks of a part.
use Rattle.std.proofs.Common.{◌≡◌, ℕ, zero, suc, ◌+◌, ◌-◌, ◌*◌, ◌/◌, ◌%◌, ◌<◌, List, [], ◌∷◌, ◌++◌, length, take, drop, map, replicate, slice_index_or, refl, sym, ap, ap₂, ◌∙◌, arith, length-drop, append_assoc, append-nil}
use Rattle.std.specs.List.{flat_map}
use Rattle.std.specs.Simd.{first_chunks}
use Rattle.std.proofs.lemmas.Grind.{flat_map-append}
use Rattle.std.proofs.lemmas.List.{take_more, take_all, take-append-drop, drop-drop, length-take-le}
use Rattle.mbj_types.specs.Blocks.{xor_lists, first_blocks, blocks, filled_block, filled_blocks}
use Rattle.mbj_types.specs.Ghash.{block_product, ghash_from}

-- one run after another
pub ghash_from-append : (h y : List ℕ) (xs ys : List (List ℕ))
    → ghash_from h y (xs ++ ys) ≡ ghash_from h (ghash_from h y xs) ys
ghash_from-append h y [] ys = refl
ghash_from-append h y (x ∷ xs) ys = ghash_from-append h (block_product (xor_lists y x) h) xs ys

-- the next block of a list
pub ghash_from-next : (h y : List ℕ) (xs : List (List ℕ)) (i : ℕ) (d now : List ℕ) → i < length xs
    → now ≡ block_product (xor_lists (ghash_from h y (take i xs)) (slice_index_or xs i d)) h
    → now ≡ ghash_from h y (take (i + 1) xs)
ghash_from-next h y xs i d now l e =
    e ∙ sym (ap (ghash_from h y) (take_more xs i d l) ∙ ghash_from-append h y (take i xs) (slice_index_or xs i d ∷ []))

-- ---- fours of blocks

-- a list of four
four_items : (xs : List (List ℕ)) (d : List ℕ) → length xs ≡ 4
    → slice_index_or xs 0 d ∷ slice_index_or xs 1 d ∷ slice_index_or xs 2 d ∷ slice_index_or xs 3 d ∷ [] ≡ xs
four_items [] d h = absurd (omega arith)
four_items (a ∷ []) d h = absurd (omega arith)
four_items (a ∷ b ∷ []) d h = absurd (omega arith)
four_items (a ∷ b ∷ c ∷ []) d h = absurd (omega arith)
four_items (a ∷ b ∷ c ∷ e ∷ []) d h = refl
four_items (a ∷ b ∷ c ∷ e ∷ f ∷ xs) d h = absurd (omega arith)

-- the next four of a list of fours
pub ghash_from-next_four : (h y : List ℕ) (xs : List (List (List ℕ))) (i : ℕ) (none : List (List ℕ)) (d now : List ℕ)
    → i < length xs → let four : List (List ℕ) = slice_index_or xs i none in
    length four ≡ 4
    → now ≡ ghash_from h (ghash_from h y (flat_map (λ four. four) (take i xs)))
    (slice_index_or four 0 d ∷ slice_index_or four 1 d ∷ slice_index_or four 2 d ∷ slice_index_or four 3 d ∷ [])
    → now ≡ ghash_from h y (flat_map (λ four. four) (take (i + 1) xs))
ghash_from-next_four h y xs i none d now l k e =
    let four : List (List ℕ) = slice_index_or xs i none in
    let before : List (List ℕ) = flat_map (λ four. four) (take i xs) in
    e ∙ ap (ghash_from h (ghash_from h y before)) (four_items four d k)
    ∙ sym (ap (λ ys. ghash_from h y (flat_map (λ four. four) ys)) (take_more xs i none l)
    ∙ ap (ghash_from h y) (flat_map-append (λ four. four) (take i xs) (four ∷ [])
    ∙ ap (λ ys. before ++ ys) (append-nil four))
    ∙ ghash_from-append h y before four)

-- the first k fours of a list, and what is behind them
first_fours : (k : ℕ) (xs : List (List ℕ)) → flat_map (λ four. four) (first_chunks 4 k xs) ++ drop (k * 4) xs ≡ xs
first_fours zero xs = refl
first_fours (suc k) xs =
    let n : suc k * 4 ≡ 4 + k * 4 = omega arith in
    append_assoc (take 4 xs) (flat_map (λ four. four) (first_chunks 4 k (drop 4 xs))) (drop (suc k * 4) xs)
    ∙ ap (λ ys. take 4 xs ++ ys) (ap (λ ys. flat_map (λ four. four) (first_chunks 4 k (drop 4 xs)) ++ ys)
    (ap (λ (m : ℕ). drop m xs) n ∙ sym (drop-drop (k * 4) 4 xs ∙ ap (λ (m : ℕ). drop m xs) (omega arith)))
    ∙ first_fours k (drop 4 xs))
    ∙ take-append-drop 4 xs

-- all blocks, by fours and then what is behind them
pub ghash_from-fours : (h y now : List ℕ) (xs : List (List ℕ)) (k : ℕ)
    → now ≡ ghash_from h (ghash_from h y (flat_map (λ four. four) (first_chunks 4 k xs))) (drop (k * 4) xs)
    → now ≡ ghash_from h y xs
ghash_from-fours h y now xs k e =
    e ∙ sym (ghash_from-append h y (flat_map (λ four. four) (first_chunks 4 k xs)) (drop (k * 4) xs))
    ∙ ap (ghash_from h y) (first_fours k xs)

-- ---- the blocks of a part

whole : (p : List ℕ) → length p ≡ 16 → filled_block p ≡ p
whole p h =
    let none : 16 - length p ≡ 0 = omega arith in
    ap (λ (n : ℕ). p ++ replicate n 0) none ∙ append-nil p

-- k whole blocks
whole_blocks : (k : ℕ) (part : List ℕ) → length part ≡ k * 16
    → map filled_block (first_blocks k part) ≡ first_chunks 16 k part
whole_blocks zero part h = refl
whole_blocks (suc k) part h =
    ap₂ (λ b bs. b ∷ bs) (whole (take 16 part) (length-take-le 16 part (omega arith)))
    (whole_blocks k (drop 16 part) (omega (arith, length-drop 16 part)))

-- and one that isn't whole
last_block : (k : ℕ) (part : List ℕ) → k * 16 < length part → length part < k * 16 + 16
    → map filled_block (first_blocks (suc k) part) ≡ first_chunks 16 k part ++ filled_block (drop (k * 16) part) ∷ []
last_block zero part h l = ap (λ p. filled_block p ∷ []) (take_all 16 part (omega arith))
last_block (suc k) part h l =
    let n : 16 + k * 16 ≡ suc k * 16 = omega arith in
    ap₂ (λ b bs. b ∷ bs) (whole (take 16 part) (length-take-le 16 part (omega arith)))
    (last_block k (drop 16 part) (omega (arith, length-drop 16 part)) (omega (arith, length-drop 16 part))
    ∙ ap (λ p. first_chunks 16 k (drop 16 part) ++ filled_block p ∷ [])
    (drop-drop (k * 16) 16 part ∙ ap (λ (m : ℕ). drop m part) (omega arith)))

-- a part of whole blocks
pub filled_blocks-whole : (part : List ℕ) → length part % 16 ≡ 0
    → filled_blocks part ≡ first_chunks 16 (length part / 16) part
unfolding blocks
filled_blocks-whole part h =
    let k : ℕ = length part / 16 in
    let n : (length part + 15) / 16 ≡ k = omega arith in
    ap (λ (m : ℕ). map filled_block (first_blocks m part)) n ∙ whole_blocks k part (omega arith)

-- any other part
pub filled_blocks-last : (part : List ℕ) → 0 < length part % 16
    → filled_blocks part ≡ first_chunks 16 (length part / 16) part ++ filled_block
    (drop (length part / 16 * 16) part) ∷ []
unfolding blocks
filled_blocks-last part h =
    let k : ℕ = length part / 16 in
    let n : (length part + 15) / 16 ≡ suc k = omega arith in
    ap (λ (m : ℕ). map filled_block (first_blocks m part)) n ∙ last_block k part (omega arith) (omega arith)
