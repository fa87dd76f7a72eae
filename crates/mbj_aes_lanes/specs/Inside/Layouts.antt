-- States whose rows are not shifted: in layout r, row w of the state stands r * w columns further on.
use Rattle.std.specs.Prelude.{ℕ, ◌+◌, ◌*◌, ◌/◌, ◌%◌, List, bit_xor}
use Rattle.mbj_aes.specs.declared.tables.TheConstants.{SBOX_CONSTANT}
use Rattle.mbj_aes.specs.BlockWords.{block_with}
use Rattle.mbj_aes.specs.Tower.{from_tower, from_decryption, inv_sub_of}

-- where byte j of the state stands in layout r
unfoldable pub place : ℕ → ℕ → ℕ
place r j = 4 * ((j / 4 + r * (j % 4)) % 4) + j % 4

-- the byte in the next row of the column
abbrev pub next_row : ℕ → ℕ
next_row j = 4 * (j / 4) + (j % 4 + 1) % 4

-- the byte that SHIFTROWS puts to j, and the one that INVSHIFTROWS does
abbrev pub shifted : ℕ → ℕ
shifted j = 4 * ((j / 4 + j % 4) % 4) + j % 4

abbrev pub inv_shifted : ℕ → ℕ
inv_shifted j = 4 * ((j / 4 + 3 * (j % 4)) % 4) + j % 4

-- ---- encryption: what bytes f in layout r stand for

-- a state
unfoldable pub tower_state : ℕ → (ℕ → ℕ) → List ℕ
tower_state r f = block_with (λ j. from_tower (f (place r j)))

-- a round key, which has the constant of SBOX added
unfoldable pub tower_key : ℕ → (ℕ → ℕ) → List ℕ
tower_key r f = block_with (λ j. bit_xor (from_tower (f (place r j))) SBOX_CONSTANT)

-- the last round key, of plain bytes
unfoldable pub last_key : (ℕ → ℕ) → List ℕ
last_key f = block_with (λ j. bit_xor (f j) SBOX_CONSTANT)

-- byte j after MIXCOLUMNS and ADDROUNDKEY, given twice each byte
abbrev pub mixed_at : (ℕ → ℕ) → (ℕ → ℕ) → (ℕ → ℕ) → ℕ → ℕ
mixed_at once twice key j =
    let two : ℕ → ℕ = λ i. bit_xor (twice i) (once (next_row (next_row i))) in
    bit_xor (bit_xor (two j) (key j)) (bit_xor (two (next_row j)) (once (next_row j)))

-- ---- decryption

-- a state after INVSUBBYTES
unfoldable pub inverse_state : ℕ → (ℕ → ℕ) → List ℕ
inverse_state r f = block_with (λ j. inv_sub_of (f (place r j)))

-- a round key, which has the constant of SBOX added
unfoldable pub inverse_key : ℕ → (ℕ → ℕ) → List ℕ
inverse_key r f = block_with (λ j. bit_xor (from_decryption (f (place r j))) SBOX_CONSTANT)

-- byte j after INVMIXCOLUMNS, given the multiples of each byte, with a key added
abbrev pub inv_mixed_at : (ℕ → ℕ) → (ℕ → ℕ) → (ℕ → ℕ) → (ℕ → ℕ) → (ℕ → ℕ) → ℕ → ℕ
inv_mixed_at nine eleven thirteen fourteen key j =
    let n : ℕ = next_row j in
    let n2 : ℕ = next_row n in
    bit_xor (bit_xor (bit_xor (bit_xor (nine (next_row n2)) (thirteen n2)) (eleven n)) (fourteen j)) (key j)
