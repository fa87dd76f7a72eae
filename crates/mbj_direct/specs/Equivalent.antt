-- The equivalent inverse cipher (FIPS 197, 5.3.5, figure 15).
use Rattle.std.specs.Prelude.{ℕ, zero, suc, ◌-◌, ◌/◌, List, length}
use Rattle.mbj_types.specs.Blocks.{xor_lists}
use Rattle.mbj_types.specs.Aes.{inv_sub_bytes, inv_shift_rows, inv_mix_columns, round_key}

-- one round: INVSUBBYTES, INVSHIFTROWS, INVMIXCOLUMNS, ADDROUNDKEY
abbrev pub equivalent_round : List ℕ → List ℕ → List ℕ
equivalent_round s k = xor_lists (inv_mix_columns (inv_shift_rows (inv_sub_bytes s))) k

-- the state after r such rounds on the block b, of a schedule in the order in which its round keys are taken
unfoldable pub equivalent_rounds : List ℕ → List ℕ → ℕ → List ℕ
equivalent_rounds dw b zero = xor_lists b (round_key dw 0)
equivalent_rounds dw b (suc r) = equivalent_round (equivalent_rounds dw b r) (round_key dw (suc r))

-- EQINVCIPHER: the block b by a schedule of n rounds, the last of which has no INVMIXCOLUMNS
abbrev pub equivalent_cipher : List ℕ → ℕ → List ℕ → List ℕ
equivalent_cipher dw n b = xor_lists (inv_shift_rows (inv_sub_bytes (equivalent_rounds dw b (n - 1)))) (round_key dw n)

-- by a schedule that has 16 bytes for each round and 16 more
unfoldable pub equivalent_decipher : List ℕ → List ℕ → List ℕ
equivalent_decipher dw b = equivalent_cipher dw (length dw / 16 - 1) b
