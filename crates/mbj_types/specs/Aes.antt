-- AES (FIPS 197) on lists of bytes, a byte being a number below 256.
use Rattle.std.specs.Prelude.{ℕ, zero, suc, ◌+◌, ◌-◌, ◌*◌, ◌/◌, ◌%◌, ◌^◌, nat_lt, nat_eq, ◌==◌, ◌||◌, Bool, List, [], ◌∷◌, ◌++◌, length, take, drop, map, slice_index, bit_xor, if◌then◌else◌}
use Rattle.mbj_types.specs.Blocks.{xor_lists}

-- ---- 4.2: the field of 256 elements, polynomials over bits modulo x^8 + x^4 + x^3 + x + 1

-- XTIMES: the product by x
abbrev pub xtime : ℕ → ℕ
xtime a = if nat_lt a 128 then 2 * a else bit_xor (2 * a) 0x11b

-- the product of a with the n lowest bits of b
abbrev pub times_bits : ℕ → ℕ → ℕ → ℕ
times_bits zero a b = 0
times_bits (suc n) a b = bit_xor ((b % 2) * a) (times_bits n (xtime a) (b / 2))

unfoldable pub times : ℕ → ℕ → ℕ
times a b = times_bits 8 a b

unfoldable pub power : ℕ → ℕ → ℕ
power a zero = 1
power a (suc n) = times a (power a n)

-- ---- 5.1.1: the S-box, the inverse in the field (4.4: the power 254) and then an affine map of its bits

abbrev pub bit : ℕ → ℕ → ℕ
bit a i = a / 2 ^ i % 2

-- bit i of the affine map of a, with the constant byte 63
abbrev pub affine_bit : ℕ → ℕ → ℕ
affine_bit a i = (bit a i + bit a ((i + 4) % 8) + bit a ((i + 5) % 8) + bit a ((i + 6) % 8) + bit a ((i + 7) % 8) + bit 0x63 i) % 2

-- the number that the first n such bits are
abbrev pub affine_bits : ℕ → ℕ → ℕ
affine_bits a zero = 0
affine_bits a (suc n) = affine_bits a n + affine_bit a n * 2 ^ n

-- SBOX
unfoldable pub sub_byte : ℕ → ℕ
sub_byte x = affine_bits (power x 254) 8

-- ---- 3.4 and 5.1: the state, 16 bytes column by column, and its steps

-- SUBBYTES
abbrev pub sub_bytes : List ℕ → List ℕ
sub_bytes s = map sub_byte s

-- the byte in row r and column c, columns being counted modulo 4
abbrev pub at : List ℕ → ℕ → ℕ → ℕ
at s r c = slice_index s (4 * (c % 4) + r)

-- SHIFTROWS (5.1.2): row r goes left by r places
abbrev pub shifted_column : List ℕ → ℕ → List ℕ
shifted_column s c = at s 0 c ∷ at s 1 (c + 1) ∷ at s 2 (c + 2) ∷ at s 3 (c + 3) ∷ []

abbrev pub shift_rows : List ℕ → List ℕ
shift_rows s = shifted_column s 0 ++ shifted_column s 1 ++ shifted_column s 2 ++ shifted_column s 3

-- MIXCOLUMNS (5.1.3): each column times the circulant matrix with the first row 02 03 01 01
abbrev pub mixed_byte : ℕ → ℕ → ℕ → ℕ → ℕ
mixed_byte a b c d = bit_xor (bit_xor (bit_xor (times 2 a) (times 3 b)) c) d

abbrev pub mixed_column : List ℕ → ℕ → List ℕ
mixed_column s c =
    mixed_byte (at s 0 c) (at s 1 c) (at s 2 c) (at s 3 c) ∷ mixed_byte (at s 1 c) (at s 2 c) (at s 3 c) (at s 0 c)
    ∷ mixed_byte (at s 2 c) (at s 3 c) (at s 0 c) (at s 1 c) ∷ mixed_byte (at s 3 c) (at s 0 c) (at s 1 c) (at s 2 c) ∷ []

abbrev pub mix_columns : List ℕ → List ℕ
mix_columns s = mixed_column s 0 ++ mixed_column s 1 ++ mixed_column s 2 ++ mixed_column s 3

-- ---- 5.2: KEYEXPANSION, a list of words of 4 bytes, joined

-- word i of a joined list of words
abbrev pub word : List ℕ → ℕ → List ℕ
word w i = take 4 (drop (4 * i) w)

-- ROTWORD: the first byte goes last
abbrev pub rot_word : List ℕ → List ℕ
rot_word w = drop 1 w ++ take 1 w

-- Rcon[j], from j = 1 on: x to the power j - 1, and three zero bytes
abbrev pub rcon : ℕ → List ℕ
rcon j = power 2 (j - 1) ∷ 0 ∷ 0 ∷ 0 ∷ []

-- what is added to word i - nk to make word i of the schedule w of a key of nk words
abbrev pub schedule_term : ℕ → List ℕ → ℕ → List ℕ
schedule_term nk w i =
    if nat_eq (i % nk) 0 then xor_lists (sub_bytes (rot_word (word w (i - 1)))) (rcon (i / nk))
    else if nat_eq nk 8 then (if nat_eq (i % 8) 4 then sub_bytes (word w (i - 1)) else word w (i - 1))
    else word w (i - 1)

-- the first nk + n words of the schedule of a key of nk words
unfoldable pub schedule : ℕ → List ℕ → ℕ → List ℕ
schedule nk key zero = key
schedule nk key (suc n) =
    let w = schedule nk key n in
    w ++ xor_lists (word w n) (schedule_term nk w (nk + n))

-- how many bytes a key has
abbrev pub is_key_size : ℕ → Bool
is_key_size n = n == 16 || (n == 24 || n == 32)

-- 10, 12 or 14 rounds for a key of 16, 24 or 32 bytes
abbrev pub round_count : List ℕ → ℕ
round_count key = length key / 4 + 6

-- the schedule of a key: 4 words for each round, and 4 more
abbrev pub key_schedule : List ℕ → List ℕ
key_schedule key = schedule (length key / 4) key (4 * (round_count key + 1) - length key / 4)

-- the 4 words of round r
abbrev pub round_key : List ℕ → ℕ → List ℕ
round_key w r = take 16 (drop (16 * r) w)

-- ---- 5.1: CIPHER

-- one round: SUBBYTES, SHIFTROWS, MIXCOLUMNS, ADDROUNDKEY
abbrev pub full_round : List ℕ → List ℕ → List ℕ
full_round s k = xor_lists (mix_columns (shift_rows (sub_bytes s))) k

-- the state after r such rounds of the schedule w on the block b
unfoldable pub after_rounds : List ℕ → List ℕ → ℕ → List ℕ
after_rounds w b zero = xor_lists b (round_key w 0)
after_rounds w b (suc r) = full_round (after_rounds w b r) (round_key w (suc r))

-- the block b under the schedule w of n rounds, the last of which has no MIXCOLUMNS
abbrev pub cipher : List ℕ → ℕ → List ℕ → List ℕ
cipher w n b = xor_lists (shift_rows (sub_bytes (after_rounds w b (n - 1)))) (round_key w n)

-- the block b under the schedule w, which has 16 bytes for each round and 16 more
unfoldable pub encipher : List ℕ → List ℕ → List ℕ
encipher w b = cipher w (length w / 16 - 1) b

-- the block b under a key of 16, 24 or 32 bytes
unfoldable pub aes : List ℕ → List ℕ → List ℕ
aes key b = encipher (key_schedule key) b

-- ---- 5.3: INVCIPHER, by the inverse of each step

-- bit i of the inverse of the affine map of a (5.3.2)
abbrev pub inv_affine_bit : ℕ → ℕ → ℕ
inv_affine_bit a i = (bit a ((i + 2) % 8) + bit a ((i + 5) % 8) + bit a ((i + 7) % 8) + bit 0x05 i) % 2

-- the number that the first n such bits are
abbrev pub inv_affine_bits : ℕ → ℕ → ℕ
inv_affine_bits a zero = 0
inv_affine_bits a (suc n) = inv_affine_bits a n + inv_affine_bit a n * 2 ^ n

-- INVSBOX: the inverse of the affine map, and then the inverse in the field
unfoldable pub inv_sub_byte : ℕ → ℕ
inv_sub_byte x = power (inv_affine_bits x 8) 254

-- INVSUBBYTES
abbrev pub inv_sub_bytes : List ℕ → List ℕ
inv_sub_bytes s = map inv_sub_byte s

-- INVSHIFTROWS (5.3.1): row r goes right by r places
abbrev pub inv_shifted_column : List ℕ → ℕ → List ℕ
inv_shifted_column s c = at s 0 c ∷ at s 1 (c + 3) ∷ at s 2 (c + 2) ∷ at s 3 (c + 1) ∷ []

abbrev pub inv_shift_rows : List ℕ → List ℕ
inv_shift_rows s = inv_shifted_column s 0 ++ inv_shifted_column s 1 ++ inv_shifted_column s 2 ++ inv_shifted_column s 3

-- INVMIXCOLUMNS (5.3.3): each column times the circulant matrix with the first row 0e 0b 0d 09
abbrev pub inv_mixed_byte : ℕ → ℕ → ℕ → ℕ → ℕ
inv_mixed_byte a b c d = bit_xor (bit_xor (bit_xor (times 0x0e a) (times 0x0b b)) (times 0x0d c)) (times 0x09 d)

abbrev pub inv_mixed_column : List ℕ → ℕ → List ℕ
inv_mixed_column s c =
    inv_mixed_byte (at s 0 c) (at s 1 c) (at s 2 c) (at s 3 c) ∷ inv_mixed_byte (at s 1 c) (at s 2 c) (at s 3 c) (at s 0 c)
    ∷ inv_mixed_byte (at s 2 c) (at s 3 c) (at s 0 c) (at s 1 c) ∷ inv_mixed_byte (at s 3 c) (at s 0 c) (at s 1 c) (at s 2 c) ∷ []

abbrev pub inv_mix_columns : List ℕ → List ℕ
inv_mix_columns s = inv_mixed_column s 0 ++ inv_mixed_column s 1 ++ inv_mixed_column s 2 ++ inv_mixed_column s 3

-- one round undone: its key, MIXCOLUMNS, SHIFTROWS, SUBBYTES
abbrev pub undone_round : List ℕ → List ℕ → List ℕ
undone_round s k = inv_sub_bytes (inv_shift_rows (inv_mix_columns (xor_lists s k)))

-- rounds r, r - 1 and so on undone, and at the end the first key
unfoldable pub undone_rounds : List ℕ → List ℕ → ℕ → List ℕ
undone_rounds w s zero = xor_lists s (round_key w 0)
undone_rounds w s (suc r) = undone_rounds w (undone_round s (round_key w (suc r))) r

-- the block s deciphered by the schedule w of n rounds
abbrev pub inv_cipher : List ℕ → ℕ → List ℕ → List ℕ
inv_cipher w n s = undone_rounds w (inv_sub_bytes (inv_shift_rows (xor_lists s (round_key w n)))) (n - 1)

-- the block b deciphered by the schedule w, which has 16 bytes for each round and 16 more
unfoldable pub decipher : List ℕ → List ℕ → List ℕ
decipher w b = inv_cipher w (length w / 16 - 1) b

-- the block b deciphered under a key of 16, 24 or 32 bytes
unfoldable pub aes_inverse : List ℕ → List ℕ → List ℕ
aes_inverse key b = decipher (key_schedule key) b
