-- A hash that takes one block more.
use Rattle.std.proofs.Common.{◌≡◌, ℕ, List, [], ◌∷◌, ◌++◌, refl, ap, ◌∙◌, sym}
use Rattle.mbj_types.specs.Blocks.{xor_lists, zero_block}
use Rattle.mbj_types.specs.Ghash.{block_product, ghash_from}
use Rattle.mbj_ghash.proofs.BlockRuns.{ghash_from-append}
use Rattle.mbj_ghash.specs.State.{HashState, state_after}

-- the value after the last block, from the one before it
ghash_from-last : (h y : List ℕ) (xs : List (List ℕ)) (x : List ℕ)
    → ghash_from h y (xs ++ x ∷ []) ≡ block_product (xor_lists (ghash_from h y xs) x) h
ghash_from-last h y [] x = refl
ghash_from-last h y (z ∷ xs) x = ghash_from-last h (block_product (xor_lists y z) h) xs x

-- the state after the last block, from the one before it
pub state_after-last : (old new : HashState) (h : List ℕ) (xs : List (List ℕ)) (x : List ℕ) → old ≡ state_after h xs
    → new ≡ record old { value = block_product (xor_lists old.value x) old.subkey }
    → new ≡ state_after h (xs ++ x ∷ [])
state_after-last old new h xs x e f =
    f ∙ ap (λ (s : HashState). record s { value = block_product (xor_lists s.value x) s.subkey }) e
    ∙ ap (λ (y : List ℕ). record { subkey = h; value = y }) (sym (ghash_from-last h zero_block xs x))

-- the state after more blocks
pub state_after-more : (old new : HashState) (h : List ℕ) (xs ys : List (List ℕ)) → old ≡ state_after h xs
    → new ≡ record old { value = ghash_from old.subkey old.value ys }
    → new ≡ state_after h (xs ++ ys)
state_after-more old new h xs ys e f =
    f ∙ ap (λ (s : HashState). record s { value = ghash_from s.subkey s.value ys }) e
    ∙ ap (λ (y : List ℕ). record { subkey = h; value = y }) (sym (ghash_from-append h zero_block xs ys))
