-- SUBBYTES, MIXCOLUMNS and ADDROUNDKEY of a column in the tower's basis.
use Rattle.std.proofs.Common.{◌≡◌, ℕ, ◌<◌, [], ◌∷◌, bit_xor, refl, sym, ap, ap₂, ◌∙◌}
use Rattle.std.proofs.lemmas.Nat.{xor_of_8}
use Rattle.mbj_types.specs.Aes.{times, mixed_byte}
use Rattle.mbj_aes.specs.declared.tables.TheConstants.{SBOX_CONSTANT}
use Rattle.mbj_aes.specs.Tower.{from_tower}
use Rattle.mbj_aes.proofs.FieldProducts.{times-xor, times_2, times_3}
use Rattle.mbj_aes.proofs.Sums.{sum4}
use Rattle.mbj_aes.proofs.TowerCases.{from_tower-xor}
use Rattle.mbj_aes_lanes.proofs.XorSums.{term, plus, same_sum}

-- a byte as the code makes it
abbrev pub sum5 : ℕ → ℕ → ℕ → ℕ → ℕ → ℕ
sum5 all a b c k = bit_xor (bit_xor (bit_xor all a) (bit_xor b c)) k

sum5-tower : (all a b c k : ℕ) → all < 256 → a < 256 → b < 256 → c < 256 → k < 256
    → from_tower (sum5 all a b c k) ≡ sum5 (from_tower all) (from_tower a) (from_tower b) (from_tower c) (from_tower k)
sum5-tower all a b c k hall ha hb hc hk =
    let first = xor_of_8 all a hall ha in
    let second = xor_of_8 b c hb hc in
    from_tower-xor (bit_xor (bit_xor all a) (bit_xor b c)) k (xor_of_8 (bit_xor all a) (bit_xor b c) first second) hk
    ∙ ap (λ (x : ℕ). bit_xor x (from_tower k))
    (from_tower-xor (bit_xor all a) (bit_xor b c) first second ∙ ap₂ bit_xor (from_tower-xor all a hall ha) (from_tower-xor b c hb hc))

-- the constant of the S-box goes through a column, and the key has it
mixed_sum : (a b c d k : ℕ) → b < 256
    → sum5 (sum4 a b c d) (bit_xor a SBOX_CONSTANT) (times 2 (bit_xor a SBOX_CONSTANT)) (times 2 (bit_xor b SBOX_CONSTANT)) k
    ≡ bit_xor (mixed_byte a b c d) (bit_xor k SBOX_CONSTANT)
mixed_sum a b c d k h =
    let three : times 3 b ≡ bit_xor (times 2 b) b = sym (ap (λ (x : ℕ). bit_xor x b) (sym (times_2 b h)) ∙ times_3 b h) in
    ap₂ (λ x y. sum5 (sum4 a b c d) (bit_xor a SBOX_CONSTANT) x y k) (times-xor 2 a SBOX_CONSTANT) (times-xor 2 b SBOX_CONSTANT)
    ∙ same_sum
    (plus (plus (plus (plus (plus (plus (term 8) (term 7)) (term 2)) (term 6)) (plus (term 8) (term 3))) (plus (plus (term 0) (term 1)) (plus (term 5) (term 1)))) (term 4))
    (plus (plus (plus (plus (term 0) (plus (term 5) (term 7))) (term 2)) (term 6)) (plus (term 4) (term 3)))
    (times 2 a ∷ times 2 SBOX_CONSTANT ∷ c ∷ SBOX_CONSTANT ∷ k ∷ times 2 b ∷ d ∷ b ∷ a ∷ []) refl
    ∙ ap (λ (x : ℕ). bit_xor (bit_xor (bit_xor (bit_xor (times 2 a) x) c) d) (bit_xor k SBOX_CONSTANT)) (sym three)

-- what the S-box has made of a byte, x, as it stands in the tower's basis
pub record IsSubstituted (x once twice : ℕ) : Type 0 where
  pub small : x < 256
  pub once_small : once < 256
  pub twice_small : twice < 256
  pub once_is : from_tower once ≡ bit_xor x SBOX_CONSTANT
  pub twice_is : from_tower twice ≡ times 2 (bit_xor x SBOX_CONSTANT)

module _ (a b c d a1 a2 b1 b2 c1 c2 d1 d2 : ℕ)
    (is_a : IsSubstituted a a1 a2) (is_b : IsSubstituted b b1 b2) (is_c : IsSubstituted c c1 c2) (is_d : IsSubstituted d d1 d2)
  where
    -- the sum of a column has the constant no more
    pub sum-tower : from_tower (bit_xor (bit_xor a1 b1) (bit_xor c1 d1)) ≡ sum4 a b c d
    sum-tower =
        let first = xor_of_8 a1 b1 is_a.once_small is_b.once_small in
        let second = xor_of_8 c1 d1 is_c.once_small is_d.once_small in
        from_tower-xor (bit_xor a1 b1) (bit_xor c1 d1) first second
        ∙ ap₂ bit_xor
        (from_tower-xor a1 b1 is_a.once_small is_b.once_small ∙ ap₂ bit_xor is_a.once_is is_b.once_is)
        (from_tower-xor c1 d1 is_c.once_small is_d.once_small ∙ ap₂ bit_xor is_c.once_is is_d.once_is)
        ∙ same_sum
        (plus (plus (plus (term 0) (term 4)) (plus (term 1) (term 4))) (plus (plus (term 2) (term 4)) (plus (term 3) (term 4))))
        (plus (plus (plus (term 0) (term 1)) (term 2)) (term 3))
        (a ∷ b ∷ c ∷ d ∷ SBOX_CONSTANT ∷ []) refl

-- a byte that is mixed, and its key added
pub mixed_byte-tower : (all a b c d a1 a2 b1 b2 k : ℕ) → all < 256 → from_tower all ≡ sum4 a b c d → IsSubstituted a a1 a2 → IsSubstituted b b1 b2 → k < 256
    → from_tower (sum5 all a1 a2 b2 k) ≡ bit_xor (mixed_byte a b c d) (bit_xor (from_tower k) SBOX_CONSTANT)
mixed_byte-tower all a b c d a1 a2 b1 b2 k small sum is_a is_b k_small =
    sum5-tower all a1 a2 b2 k small is_a.once_small is_a.twice_small is_b.twice_small k_small
    ∙ ap₂ (λ x y. sum5 x y (from_tower a2) (from_tower b2) (from_tower k)) sum is_a.once_is
    ∙ ap₂ (λ x y. sum5 (sum4 a b c d) (bit_xor a SBOX_CONSTANT) x y (from_tower k)) is_a.twice_is is_b.twice_is
    ∙ mixed_sum a b c d (from_tower k) is_b.small
