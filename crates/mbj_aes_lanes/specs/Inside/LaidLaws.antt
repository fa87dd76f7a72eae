-- Laws of round keys that are laid out: sixteen bytes of them count, and they stand for as many.
use Rattle.std.proofs.Common.{◌≡◌, ℕ, ◌<◌, nat_eq, List, length, bit_xor, if◌then◌else◌, refl, ap, arith}
use Rattle.std.proofs.lemmas.Bool.Decides.{nat_tests}
use Rattle.mbj_types.specs.Aes.{mix_columns}
use Rattle.mbj_aes.specs.declared.tables.TheConstants.{SBOX_CONSTANT}
use Rattle.mbj_aes.specs.BlockWords.{block_with}
use Rattle.mbj_aes.specs.Tower.{from_tower, from_decryption}
use Rattle.mbj_aes.proofs.BlockWords.{block_with-same, length-block_with}
use Rattle.mbj_aes_lanes.specs.Inside.Layouts.{place, tower_state, tower_key, last_key, inverse_key}
use Rattle.mbj_aes_lanes.specs.Inside.LaidKeys.{key_of_round, laid_key, inverse_laid_key}

length-key_of_round : (n r : ℕ) (x y z : List ℕ) → length x ≡ 16 → length y ≡ 16 → length z ≡ 16 → length (key_of_round n r x y z) ≡ 16
length-key_of_round n r x y z hx hy hz = grind (arith, nat_tests)

place-lt : (r j : ℕ) → place r j < 16
unfolding place
place-lt r j = omega arith

module _ (n r : ℕ) (f : ℕ → ℕ) where
  pub length-laid_key : length (laid_key n r f) ≡ 16
  unfolding tower_state last_key tower_key
  length-laid_key =
      length-key_of_round n r (tower_state 0 f) (last_key f) (tower_key r f) (length-block_with _) (length-block_with _) (length-block_with _)

  pub length-inverse_laid_key : length (inverse_laid_key n r f) ≡ 16
  unfolding inverse_key
  length-inverse_laid_key =
      length-key_of_round n r (block_with f) (inverse_key 0 f) (mix_columns (inverse_key r f)) (length-block_with f) (length-block_with _) refl

  module _ (g : ℕ → ℕ) (same : (j : ℕ) → j < 16 → f j ≡ g j) where
    tower_state-same : tower_state 0 f ≡ tower_state 0 g
    unfolding tower_state
    tower_state-same =
        block_with-same (λ j. from_tower (f (place 0 j))) (λ j. from_tower (g (place 0 j))) (λ j h. ap from_tower (same (place 0 j) (place-lt 0 j)))

    tower_key-same : tower_key r f ≡ tower_key r g
    unfolding tower_key
    tower_key-same =
        block_with-same (λ j. bit_xor (from_tower (f (place r j))) SBOX_CONSTANT) (λ j. bit_xor (from_tower (g (place r j))) SBOX_CONSTANT)
        (λ j h. ap (λ x. bit_xor (from_tower x) SBOX_CONSTANT) (same (place r j) (place-lt r j)))

    last_key-same : last_key f ≡ last_key g
    unfolding last_key
    last_key-same =
        block_with-same (λ j. bit_xor (f j) SBOX_CONSTANT) (λ j. bit_xor (g j) SBOX_CONSTANT) (λ j h. ap (λ (x : ℕ). bit_xor x SBOX_CONSTANT) (same j h))

    inverse_key-same : (q : ℕ) → inverse_key q f ≡ inverse_key q g
    unfolding inverse_key
    inverse_key-same q =
        block_with-same (λ j. bit_xor (from_decryption (f (place q j))) SBOX_CONSTANT) (λ j. bit_xor (from_decryption (g (place q j))) SBOX_CONSTANT)
        (λ j h. ap (λ x. bit_xor (from_decryption x) SBOX_CONSTANT) (same (place q j) (place-lt q j)))

    pub laid_key-same : laid_key n r f ≡ laid_key n r g
    laid_key-same =
        let a = tower_state-same in
        let b = last_key-same in
        let c = tower_key-same in
        λ i. if nat_eq r 0 then a i else if nat_eq r n then b i else c i

    pub inverse_laid_key-same : inverse_laid_key n r f ≡ inverse_laid_key n r g
    inverse_laid_key-same =
        let a = block_with-same f g same in
        let b = inverse_key-same 0 in
        let c = inverse_key-same r in
        λ i. if nat_eq r 0 then a i else if nat_eq r n then b i else mix_columns (c i)
