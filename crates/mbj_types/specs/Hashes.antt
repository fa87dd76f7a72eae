-- The lengths of the hashes of FIPS 180-4, in bytes.
use Rattle.std.specs.Prelude.{ℕ}

-- of a digest, of a block and of a word (figure 1), and of a hash value, whole (6)
pub record Lengths : Type 0 where
  pub digest : ℕ
  pub block : ℕ
  pub state : ℕ
  pub word : ℕ

abbrev pub sha1_lengths : Lengths
sha1_lengths = record { digest = 20; block = 64; state = 20; word = 4 }

abbrev pub sha224_lengths : Lengths
sha224_lengths = record { digest = 28; block = 64; state = 32; word = 4 }

abbrev pub sha256_lengths : Lengths
sha256_lengths = record { digest = 32; block = 64; state = 32; word = 4 }

abbrev pub sha384_lengths : Lengths
sha384_lengths = record { digest = 48; block = 128; state = 64; word = 8 }

abbrev pub sha512_lengths : Lengths
sha512_lengths = record { digest = 64; block = 128; state = 64; word = 8 }
