-- The example vectors of FIPS 197, appendix C, written as the standard has them.
use Rattle.std.specs.Prelude.{ℕ, List}
use Rattle.std.specs.Int.{bytes_high_first}

abbrev pub plaintext : List ℕ
plaintext = bytes_high_first 16 0x00112233445566778899aabbccddeeff

-- C.1: a key of 16 bytes
abbrev pub key_128 : List ℕ
key_128 = bytes_high_first 16 0x000102030405060708090a0b0c0d0e0f

abbrev pub ciphertext_128 : List ℕ
ciphertext_128 = bytes_high_first 16 0x69c4e0d86a7b0430d8cdb78070b4c55a

-- C.2: a key of 24 bytes
abbrev pub key_192 : List ℕ
key_192 = bytes_high_first 24 0x000102030405060708090a0b0c0d0e0f1011121314151617

abbrev pub ciphertext_192 : List ℕ
ciphertext_192 = bytes_high_first 16 0xdda97ca4864cdfe06eaf70a0ec0d7191

-- C.3: a key of 32 bytes
abbrev pub key_256 : List ℕ
key_256 = bytes_high_first 32 0x000102030405060708090a0b0c0d0e0f101112131415161718191a1b1c1d1e1f

abbrev pub ciphertext_256 : List ℕ
ciphertext_256 = bytes_high_first 16 0x8ea2b7ca516745bfeafc49904b496089
