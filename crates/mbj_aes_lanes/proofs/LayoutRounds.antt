-- Rounds of 16 bytes in layouts.
use Rattle.std.proofs.Common.{◌≡◌, ℕ, ◌+◌, ◌<◌, bit_xor, refl, ap, ◌∙◌, arith}
use lib.Bits.{xor_assoc, xor_comm}
use Rattle.mbj_types.specs.Blocks.{xor_lists}
use Rattle.mbj_types.specs.Aes.{times, sub_byte, sub_bytes, shift_rows, mix_columns, mixed_byte, full_round}
use Rattle.mbj_aes.specs.declared.tables.TheConstants.{SBOX_CONSTANT}
use Rattle.mbj_aes.specs.BlockWords.{block_with}
use Rattle.mbj_aes.specs.Tower.{from_tower, bare_sub_byte}
use Rattle.mbj_aes.proofs.Sums.{xor_twice}
use Rattle.mbj_aes.proofs.ByteMaps.{sub_byte_small}
use Rattle.mbj_aes.proofs.BlockWords.{block_with-same}
use Rattle.mbj_aes.proofs.TowerCases.{from_tower-xor}
use Rattle.mbj_aes_lanes.specs.Inside.Layouts.{place, next_row, shifted, tower_state, tower_key, last_key, mixed_at}
use Rattle.mbj_aes_lanes.proofs.LayoutPlaces.{place-lt, place-shifted, place-none}
use Rattle.mbj_aes_lanes.proofs.MixedBytes.{from_tower-sum6, mixed_is}

-- ---- the steps, byte by byte

-- byte j after SHIFTROWS, MIXCOLUMNS and ADDROUNDKEY of the bytes x
abbrev round_byte : (ℕ → ℕ) → (ℕ → ℕ) → ℕ → ℕ
round_byte x k j =
    let y : ℕ → ℕ = λ j. x (shifted j) in
    bit_xor (mixed_byte (y j) (y (next_row j)) (y (next_row (next_row j))) (y (next_row (next_row (next_row j))))) (k j)

round_bytes : (x k : ℕ → ℕ) → block_with (round_byte x k) ≡ xor_lists (mix_columns (shift_rows (block_with x))) (block_with k)
unfolding block_with
round_bytes x k = refl

last_bytes : (x k : ℕ → ℕ) → block_with (λ j. bit_xor (x (shifted j)) (k j)) ≡ xor_lists (shift_rows (block_with x)) (block_with k)
unfolding block_with
last_bytes x k = refl

pub summed_bytes : (x k : ℕ → ℕ) → block_with (λ j. bit_xor (x j) (k j)) ≡ xor_lists (block_with x) (block_with k)
unfolding block_with
summed_bytes x k = refl

-- what SBOX makes of the bytes
sub_bytes_of : (x : ℕ → ℕ) → block_with (λ j. sub_byte (x j)) ≡ sub_bytes (block_with x)
unfolding block_with
sub_bytes_of x = refl

module _ (r q : ℕ) (next : r ≡ q + 1) (s : ℕ → ℕ) where
  -- what SBOX has made of the byte that goes to j
  abbrev box : ℕ → ℕ
  box j = sub_byte (from_tower (s (place q j)))

  abbrev out : ℕ → ℕ
  out j = box (shifted j)

  from_before : (j : ℕ) → j < 16 → place r j ≡ place q (shifted j)
  from_before j h = ap (λ r. place r j) next ∙ place-shifted q j h

  boxes : block_with box ≡ sub_bytes (tower_state q s)
  unfolding tower_state
  boxes = sub_bytes_of (λ j. from_tower (s (place q j)))

  module _ (once twice key : ℕ → ℕ)
      (once_small : (j : ℕ) → once j < 256) (twice_small : (j : ℕ) → twice j < 256) (key_small : (j : ℕ) → key j < 256)
      (once_is : (j : ℕ) → j < 16 → from_tower (once j) ≡ bare_sub_byte (from_tower (s j)))
      (twice_is : (j : ℕ) → j < 16 → from_tower (twice j) ≡ times 2 (bare_sub_byte (from_tower (s j))))
    where
      once_at : (j : ℕ) → j < 16 → from_tower (once (place r j)) ≡ bit_xor (out j) SBOX_CONSTANT
      once_at j h = once_is (place r j) (place-lt r j) ∙ ap (λ p. bare_sub_byte (from_tower (s p))) (from_before j h)

      twice_at : (j : ℕ) → j < 16 → from_tower (twice (place r j)) ≡ times 2 (bit_xor (out j) SBOX_CONSTANT)
      twice_at j h = twice_is (place r j) (place-lt r j) ∙ ap (λ p. times 2 (bare_sub_byte (from_tower (s p)))) (from_before j h)

      mixed_byte_is : (j : ℕ) → j < 16
          → from_tower (mixed_at (λ i. once (place r i)) (λ i. twice (place r i)) (λ i. key (place r i)) j)
          ≡ round_byte box (λ j. bit_xor (from_tower (key (place r j))) SBOX_CONSTANT) j
      mixed_byte_is j h =
          let n : ℕ = next_row j in
          let n2 : ℕ = next_row n in
          let n3 : ℕ = next_row n2 in
          let k : ℕ = key (place r j) in
          cc (
            from_tower-sum6 (twice (place r j)) (once (place r n2)) k (twice (place r n)) (once (place r n3)) (once (place r n))
                (twice_small _) (once_small _) (key_small _) (twice_small _) (once_small _) (once_small _),
            twice_at j h,
            once_at n2 (omega arith),
            twice_at n (omega arith),
            once_at n3 (omega arith),
            once_at n (omega arith),
            mixed_is (out j) (out n) (out n2) (out n3) (from_tower k) (sub_byte_small (from_tower (s (place q (shifted n))))),
          )

      pub full_round_is : (made : ℕ → ℕ)
          → ((j : ℕ) → j < 16 → made (place r j) ≡ mixed_at (λ i. once (place r i)) (λ i. twice (place r i)) (λ i. key (place r i)) j)
          → tower_state r made ≡ full_round (tower_state q s) (tower_key r key)
      unfolding tower_state tower_key
      full_round_is made is =
          block_with-same (λ j. from_tower (made (place r j))) (round_byte box (λ j. bit_xor (from_tower (key (place r j))) SBOX_CONSTANT))
          (λ j h. ap from_tower (is j h) ∙ mixed_byte_is j h)
          ∙ round_bytes box (λ j. bit_xor (from_tower (key (place r j))) SBOX_CONSTANT)
          ∙ ap (λ b. xor_lists (mix_columns (shift_rows b)) (tower_key r key)) boxes

  pub last_round_is : (made key : ℕ → ℕ)
      → ((j : ℕ) → j < 16 → made j ≡ bit_xor (bare_sub_byte (from_tower (s (place r j)))) (key j))
      → block_with made ≡ xor_lists (shift_rows (sub_bytes (tower_state q s))) (last_key key)
  unfolding last_key
  last_round_is made key is =
      block_with-same made (λ j. bit_xor (out j) (bit_xor (key j) SBOX_CONSTANT))
      (λ j h. is j h ∙ ap (λ p. bit_xor (bare_sub_byte (from_tower (s p))) (key j)) (from_before j h)
      ∙ xor_assoc (out j) SBOX_CONSTANT (key j) ∙ ap (bit_xor (out j)) (xor_comm SBOX_CONSTANT (key j)))
      ∙ last_bytes box (λ j. bit_xor (key j) SBOX_CONSTANT)
      ∙ ap (λ b. xor_lists (shift_rows b) (last_key key)) boxes

-- the bytes t are s in the tower's basis
pub first_round_is : (s t key made : ℕ → ℕ) → ((j : ℕ) → t j < 256) → ((j : ℕ) → key j < 256)
    → ((j : ℕ) → j < 16 → from_tower (t j) ≡ s j) → ((j : ℕ) → j < 16 → made j ≡ bit_xor (t j) (key j))
    → tower_state 0 made ≡ xor_lists (block_with s) (tower_state 0 key)
unfolding tower_state
first_round_is s t key made t_small key_small t_is is =
    block_with-same (λ j. from_tower (made (place 0 j))) (λ j. bit_xor (s j) (from_tower (key (place 0 j))))
    (λ j h.
    let p : ℕ = place 0 j in
    let inside : p < 16 = place-lt 0 j in
    ap from_tower (is p inside) ∙ from_tower-xor (t p) (key p) (t_small p) (key_small p)
    ∙ ap (λ (x : ℕ). bit_xor x (from_tower (key p))) (t_is p inside ∙ ap s (place-none j h)))
    ∙ summed_bytes s (λ j. from_tower (key (place 0 j)))

-- ---- round keys as they are laid out

pub first_key_is : (key made : ℕ → ℕ) → ((j : ℕ) → j < 16 → from_tower (made j) ≡ key j) → tower_state 0 made ≡ block_with key
unfolding tower_state
first_key_is key made is =
    block_with-same (λ j. from_tower (made (place 0 j))) key (λ j h. ap (λ p. from_tower (made p)) (place-none j h) ∙ is j h)

pub key_between_is : (r : ℕ) (key made : ℕ → ℕ)
    → ((j : ℕ) → j < 16 → from_tower (made (place r j)) ≡ bit_xor (key j) SBOX_CONSTANT) → tower_key r made ≡ block_with key
unfolding tower_key
key_between_is r key made is =
    block_with-same (λ j. bit_xor (from_tower (made (place r j))) SBOX_CONSTANT) key
    (λ j h. ap (λ (x : ℕ). bit_xor x SBOX_CONSTANT) (is j h) ∙ xor_twice (key j) SBOX_CONSTANT)

pub last_key_is : (key made : ℕ → ℕ) → ((j : ℕ) → j < 16 → made j ≡ bit_xor (key j) SBOX_CONSTANT) → last_key made ≡ block_with key
unfolding last_key
last_key_is key made is =
    block_with-same (λ j. bit_xor (made j) SBOX_CONSTANT) key
    (λ j h. ap (λ (x : ℕ). bit_xor x SBOX_CONSTANT) (is j h) ∙ xor_twice (key j) SBOX_CONSTANT)
