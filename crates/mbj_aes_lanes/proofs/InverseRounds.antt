-- Rounds of decryption, of 16 bytes in layouts.
use Rattle.std.proofs.Common.{◌≡◌, ℕ, ◌+◌, ◌<◌, List, slice_index, ◌∷◌, [], bit_xor, refl, sym, ap, ap₂, ◌∙◌, arith}
use Rattle.std.proofs.lemmas.Nat.{xor_of_8}
use Rattle.std.proofs.lemmas.List.FromFn.{get_or-map-range_with_len}
use lib.Bits.{xor_assoc, xor_zero_r}
use Rattle.mbj_types.specs.Blocks.{xor_lists}
use Rattle.mbj_types.specs.Aes.{times, inv_sub_byte, inv_sub_bytes, inv_shift_rows, mix_columns, inv_mix_columns, inv_mixed_byte, undone_round}
use Rattle.mbj_aes.specs.declared.tables.TheConstants.{SBOX_CONSTANT}
use Rattle.mbj_aes.specs.BlockWords.{block_with}
use Rattle.mbj_aes.specs.Bytes.{IsBlock}
use Rattle.mbj_aes.specs.Tower.{from_decryption, inv_sub_of}
use Rattle.mbj_aes.proofs.BlockWords.{block_with-each, block_with-same, length-block_with}
use Rattle.mbj_aes.proofs.ByteCases.{same_at_each}
use Rattle.mbj_aes.proofs.Columns.{unmixed_columns, remixed_columns}
use Rattle.mbj_aes.proofs.DecryptionCases.{from_decryption-xor, from_decryption-lt}
use Rattle.mbj_aes.proofs.FieldProducts.{times-xor}
use Rattle.mbj_aes.proofs.Sums.{xor_twice}
use Rattle.mbj_aes_lanes.specs.Inside.Layouts.{place, next_row, shifted, inv_shifted, inverse_state, inverse_key, inv_mixed_at}
use Rattle.mbj_aes_lanes.proofs.LayoutPlaces.{place-lt, place-shifted, place-none}
use Rattle.mbj_aes_lanes.proofs.LayoutRounds.{summed_bytes}
use Rattle.mbj_aes_lanes.proofs.XorSums.{term, plus, same_sum}

-- ---- bytes

from_decryption-sum5 : (a b c d e : ℕ) → a < 256 → b < 256 → c < 256 → d < 256 → e < 256
    → from_decryption (bit_xor (bit_xor (bit_xor (bit_xor a b) c) d) e)
    ≡ bit_xor (bit_xor (bit_xor (bit_xor (from_decryption a) (from_decryption b)) (from_decryption c)) (from_decryption d)) (from_decryption e)
from_decryption-sum5 a b c d e ha hb hc hd he = grind (arith, from_decryption-xor, xor_of_8)

-- the multiples in the order of the standard
in_order : (a b c d k : ℕ)
    → bit_xor (bit_xor (bit_xor (bit_xor (bit_xor (times 9 d) (times 13 c)) (times 11 b)) (times 14 a)) k) SBOX_CONSTANT
    ≡ bit_xor (inv_mixed_byte a b c d) (bit_xor k SBOX_CONSTANT)
in_order a b c d k =
    same_sum
    (plus (plus (plus (plus (plus (term 3) (term 2)) (term 1)) (term 0)) (term 4)) (term 5))
    (plus (plus (plus (plus (term 0) (term 1)) (term 2)) (term 3)) (plus (term 4) (term 5)))
    (times 14 a ∷ times 11 b ∷ times 13 c ∷ times 9 d ∷ k ∷ SBOX_CONSTANT ∷ []) refl

inv_mixed_byte-xor : (a b c d x y z w : ℕ)
    → inv_mixed_byte (bit_xor a x) (bit_xor b y) (bit_xor c z) (bit_xor d w) ≡ bit_xor (inv_mixed_byte a b c d) (inv_mixed_byte x y z w)
inv_mixed_byte-xor a b c d x y z w =
    (λ i. bit_xor (bit_xor (bit_xor (times-xor 14 a x i) (times-xor 11 b y i)) (times-xor 13 c z i)) (times-xor 9 d w i))
    ∙ same_sum
    (plus (plus (plus (plus (term 0) (term 4)) (plus (term 1) (term 5))) (plus (term 2) (term 6))) (plus (term 3) (term 7)))
    (plus (plus (plus (plus (term 0) (term 1)) (term 2)) (term 3)) (plus (plus (plus (term 4) (term 5)) (term 6)) (term 7)))
    (times 14 a ∷ times 11 b ∷ times 13 c ∷ times 9 d ∷ times 14 x ∷ times 11 y ∷ times 13 z ∷ times 9 w ∷ []) refl

-- ---- blocks

pub IsBlock-block_with : (f : ℕ → ℕ) → ((j : ℕ) → j < 16 → f j < 256) → IsBlock (block_with f)
unfolding block_with
IsBlock-block_with f small = record {
  size = length-block_with f;
  bytes = λ k d lt.
      let inside : k < 16 = omega (arith, lt, length-block_with f) in
      rw (get_or-map-range_with_len f 0 16 k k d inside (omega arith)) (small k inside);
}

inverse_key-block : (r : ℕ) (key : ℕ → ℕ) → block_with (λ j. bit_xor (from_decryption (key (place r j))) SBOX_CONSTANT) ≡ inverse_key r key
unfolding inverse_key
inverse_key-block r key = refl

IsBlock-inverse_key : (r : ℕ) (key : ℕ → ℕ) → ((j : ℕ) → key j < 256) → IsBlock (inverse_key r key)
unfolding inverse_key
IsBlock-inverse_key r key small =
    IsBlock-block_with (λ j. bit_xor (from_decryption (key (place r j))) SBOX_CONSTANT)
    (λ j h. xor_of_8 (from_decryption (key (place r j))) SBOX_CONSTANT (from_decryption-lt (key (place r j)) (small (place r j))) (omega arith))

-- byte j after INVMIXCOLUMNS of the bytes x
abbrev inv_mixed_of : (ℕ → ℕ) → ℕ → ℕ
inv_mixed_of x j = inv_mixed_byte (x j) (x (next_row j)) (x (next_row (next_row j))) (x (next_row (next_row (next_row j))))

inv_mixed_bytes : (x : ℕ → ℕ) → block_with (inv_mixed_of x) ≡ inv_mix_columns (block_with x)
unfolding block_with
inv_mixed_bytes x = refl

inv_sub_bytes_of : (x : ℕ → ℕ) → block_with (λ j. inv_sub_byte (x (inv_shifted j))) ≡ inv_sub_bytes (inv_shift_rows (block_with x))
unfolding block_with
inv_sub_bytes_of x = refl

inv_mix_columns-xor : (x k : ℕ → ℕ)
    → xor_lists (inv_mix_columns (block_with x)) (inv_mix_columns (block_with k)) ≡ inv_mix_columns (xor_lists (block_with x) (block_with k))
inv_mix_columns-xor x k =
    ap₂ xor_lists (sym (inv_mixed_bytes x)) (sym (inv_mixed_bytes k))
    ∙ sym (summed_bytes (inv_mixed_of x) (inv_mixed_of k))
    ∙ block_with-same (λ j. bit_xor (inv_mixed_of x j) (inv_mixed_of k j)) (inv_mixed_of (λ j. bit_xor (x j) (k j)))
    (λ j h. sym (inv_mixed_byte-xor (x j) _ _ _ (k j) _ _ _))
    ∙ inv_mixed_bytes (λ j. bit_xor (x j) (k j))
    ∙ ap inv_mix_columns (summed_bytes x k)

-- ---- rounds

shifted_back : (j : ℕ) → j < 16 → shifted (inv_shifted j) ≡ j
shifted_back j h = same_at_each (λ j. shifted (inv_shifted j)) (λ j. j) 16 j refl h

to_before : (r q : ℕ) → r ≡ q + 1 → (j : ℕ) → j < 16 → place q j ≡ place r (inv_shifted j)
to_before r q next j h =
    sym (ap (λ r. place r (inv_shifted j)) next ∙ place-shifted q (inv_shifted j) (omega arith) ∙ ap (place q) (shifted_back j h))

-- multiples of what INVSBOX makes of the bytes s, and a key
module _ (s nine eleven thirteen fourteen key : ℕ → ℕ)
    (nine_small : (j : ℕ) → nine j < 256) (eleven_small : (j : ℕ) → eleven j < 256)
    (thirteen_small : (j : ℕ) → thirteen j < 256) (fourteen_small : (j : ℕ) → fourteen j < 256) (key_small : (j : ℕ) → key j < 256)
    (nine_is : (j : ℕ) → j < 16 → from_decryption (nine j) ≡ times 9 (inv_sub_of (s j)))
    (eleven_is : (j : ℕ) → j < 16 → from_decryption (eleven j) ≡ times 11 (inv_sub_of (s j)))
    (thirteen_is : (j : ℕ) → j < 16 → from_decryption (thirteen j) ≡ times 13 (inv_sub_of (s j)))
    (fourteen_is : (j : ℕ) → j < 16 → from_decryption (fourteen j) ≡ times 14 (inv_sub_of (s j)))
    (r : ℕ) (made : ℕ → ℕ)
    (made_is : (j : ℕ) → j < 16 → made (place r j)
    ≡ inv_mixed_at (λ i. nine (place r i)) (λ i. eleven (place r i)) (λ i. thirteen (place r i)) (λ i. fourteen (place r i)) (λ i. key (place r i)) j)
  where
    abbrev box : ℕ → ℕ
    box j = inv_sub_of (s (place r j))

    abbrev added : ℕ → ℕ
    added j = bit_xor (from_decryption (key (place r j))) SBOX_CONSTANT

    byte_is : (j : ℕ) → j < 16 → bit_xor (from_decryption (made (place r j))) SBOX_CONSTANT ≡ bit_xor (inv_mixed_of box j) (added j)
    byte_is j h =
        let n : ℕ = next_row j in
        let n2 : ℕ = next_row n in
        let n3 : ℕ = next_row n2 in
        let k : ℕ = from_decryption (key (place r j)) in
        cc (
          made_is j h,
          from_decryption-sum5 (nine (place r n3)) (thirteen (place r n2)) (eleven (place r n)) (fourteen (place r j)) (key (place r j))
              (nine_small _) (thirteen_small _) (eleven_small _) (fourteen_small _) (key_small _),
          nine_is (place r n3) (place-lt r n3),
          thirteen_is (place r n2) (place-lt r n2),
          eleven_is (place r n) (place-lt r n),
          fourteen_is (place r j) (place-lt r j),
          in_order (box j) (box n) (box n2) (box n3) k,
        )

    -- what INVMIXCOLUMNS makes of the key with INVMIXCOLUMNS undone
    columns_are : block_with (λ j. bit_xor (inv_mixed_of box j) (added j)) ≡ inv_mix_columns (xor_lists (inverse_state r s) (mix_columns (inverse_key r key)))
    unfolding inverse_state
    columns_are =
        let k : List ℕ = mix_columns (inverse_key r key) in
        let listed : block_with (slice_index k) ≡ k = block_with-each (slice_index k) k refl (λ j h. refl) in
        summed_bytes (inv_mixed_of box) added
        ∙ ap₂ xor_lists (inv_mixed_bytes box)
        (inverse_key-block r key ∙ sym (unmixed_columns (inverse_key r key) (IsBlock-inverse_key r key key_small)) ∙ ap inv_mix_columns (sym listed))
        ∙ inv_mix_columns-xor box (slice_index k)
        ∙ ap (λ u. inv_mix_columns (xor_lists (block_with box) u)) listed

    pub inverse_round_is : (q : ℕ) → r ≡ q + 1 → inverse_state q made ≡ undone_round (inverse_state r s) (mix_columns (inverse_key r key))
    unfolding inverse_state
    inverse_round_is q next =
        block_with-same (λ j. inv_sub_of (made (place q j))) (λ j. inv_sub_byte (bit_xor (inv_mixed_of box (inv_shifted j)) (added (inv_shifted j))))
        (λ j h. ap (λ p. inv_sub_of (made p)) (to_before r q next j h) ∙ ap inv_sub_byte (byte_is (inv_shifted j) (omega arith)))
        ∙ inv_sub_bytes_of (λ j. bit_xor (inv_mixed_of box j) (added j))
        ∙ ap (λ t. inv_sub_bytes (inv_shift_rows t)) columns_are

    -- a key as it is laid out: the bytes s are those that INVSBOX makes the key of, and the key that is added is the constant
    module _ (plain : ℕ → ℕ) (plain_small : (j : ℕ) → plain j < 256) (box_is : (j : ℕ) → j < 16 → box j ≡ plain j)
        (key_is : (j : ℕ) → j < 16 → from_decryption (key j) ≡ SBOX_CONSTANT)
        (q : ℕ) (result : ℕ → ℕ) (is : (j : ℕ) → j < 16 → result (place q j) ≡ made (place r j))
      where
        unmixed : inverse_key q result ≡ inv_mix_columns (block_with plain)
        unfolding inverse_key
        unmixed =
            block_with-same (λ j. bit_xor (from_decryption (result (place q j))) SBOX_CONSTANT) (inv_mixed_of plain) (λ j h.
            let n : ℕ = next_row j in
            let n2 : ℕ = next_row n in
            let e0 = box_is j h in
            let e1 = box_is n (omega arith) in
            let e2 = box_is n2 (omega arith) in
            let e3 = box_is (next_row n2) (omega arith) in
            ap (λ x. bit_xor (from_decryption x) SBOX_CONSTANT) (is j h) ∙ byte_is j h
            ∙ ap₂ bit_xor (λ i. inv_mixed_byte (e0 i) (e1 i) (e2 i) (e3 i))
            (ap (λ (x : ℕ). bit_xor x SBOX_CONSTANT) (key_is (place r j) (place-lt r j)))
            ∙ xor_zero_r (inv_mixed_of plain j))
            ∙ inv_mixed_bytes plain

        pub inverse_key_is : mix_columns (inverse_key q result) ≡ block_with plain
        inverse_key_is = ap mix_columns unmixed ∙ remixed_columns (block_with plain) (IsBlock-block_with plain (λ j h. plain_small j))

-- the bytes t are s in the basis of decryption
pub inverse_last_round_is : (r q : ℕ) → r ≡ q + 1 → (s t key made : ℕ → ℕ) → ((j : ℕ) → t j < 256) → ((j : ℕ) → key j < 256)
    → ((j : ℕ) → j < 16 → from_decryption (t j) ≡ s j) → ((j : ℕ) → j < 16 → made (place r j) ≡ bit_xor (t j) (key j))
    → inverse_state q made ≡ inv_sub_bytes (inv_shift_rows (xor_lists (block_with s) (inverse_key 0 key)))
unfolding inverse_state inverse_key
inverse_last_round_is r q next s t key made t_small key_small t_is is =
    let added : ℕ → ℕ = λ j. bit_xor (from_decryption (key (place 0 j))) SBOX_CONSTANT in
    block_with-same (λ j. inv_sub_of (made (place q j))) (λ j. inv_sub_byte (bit_xor (s (inv_shifted j)) (added (inv_shifted j))))
    (λ j h.
    let i : ℕ = inv_shifted j in
    let inside : i < 16 = omega arith in
    ap (λ p. inv_sub_of (made p)) (to_before r q next j h)
    ∙ ap (λ x. inv_sub_byte (bit_xor x SBOX_CONSTANT))
    (ap from_decryption (is i inside) ∙ from_decryption-xor (t i) (key i) (t_small i) (key_small i)
    ∙ ap₂ (λ x p. bit_xor x (from_decryption (key p))) (t_is i inside) (sym (place-none i inside)))
    ∙ ap inv_sub_byte (xor_assoc (s i) (from_decryption (key (place 0 i))) SBOX_CONSTANT))
    ∙ inv_sub_bytes_of (λ j. bit_xor (s j) (added j))
    ∙ ap (λ t. inv_sub_bytes (inv_shift_rows t)) (summed_bytes s added)

pub inverse_first_round_is : (s key made : ℕ → ℕ) → ((j : ℕ) → j < 16 → made j ≡ bit_xor (inv_sub_of (s j)) (key j))
    → block_with made ≡ xor_lists (inverse_state 0 s) (block_with key)
unfolding inverse_state
inverse_first_round_is s key made is =
    block_with-same made (λ j. bit_xor (inv_sub_of (s (place 0 j))) (key j))
    (λ j h. is j h ∙ ap (λ p. bit_xor (inv_sub_of (s p)) (key j)) (sym (place-none j h)))
    ∙ summed_bytes (λ j. inv_sub_of (s (place 0 j))) key

pub inverse_last_key_is : (key made : ℕ → ℕ) → ((j : ℕ) → j < 16 → from_decryption (made j) ≡ bit_xor (key j) SBOX_CONSTANT)
    → inverse_key 0 made ≡ block_with key
unfolding inverse_key
inverse_last_key_is key made is =
    block_with-same (λ j. bit_xor (from_decryption (made (place 0 j))) SBOX_CONSTANT) key
    (λ j h. ap (λ p. bit_xor (from_decryption (made p)) SBOX_CONSTANT) (place-none j h)
    ∙ ap (λ (x : ℕ). bit_xor x SBOX_CONSTANT) (is j h)
    ∙ xor_twice (key j) SBOX_CONSTANT)
