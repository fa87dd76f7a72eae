-- The hashes of FIPS 180-4 that lanes serve: SHA-1; SHA-224 and SHA-256; SHA-384 and SHA-512.
use Rattle.std.specs.Prelude.{Bool, true, false, List, [], ℕ, take}
use Rattle.sha1.specs.Sha1 as Sha1
use Rattle.sha2.specs.Sha256 as Sha256
use Rattle.sha2.specs.Sha512 as Sha512
use Rattle.mbj_types.specs.declared.class.HashName.{HashName}
use Rattle.mbj_types.specs.declared.class.HashName.TheVariants as hash
use Rattle.mbj_types.specs.Hashes.{sha1_lengths, sha224_lengths, sha256_lengths, sha384_lengths, sha512_lengths}
use Rattle.mbj_hmac.specs.Rounds.{Hashing}

-- what a hash that isn't served has is empty, and not looked at

-- ---- SHA-1

abbrev pub is_sha1 : HashName → Bool
is_sha1 hash.Sha1 = true
is_sha1 hash.Sha224 = false
is_sha1 hash.Sha256 = false
is_sha1 hash.Sha384 = false
is_sha1 hash.Sha512 = false

-- the initial hash value (FIPS 180-4, 5.3.1), and the digest (6.1)
abbrev pub sha1_initial : HashName → List ℕ
sha1_initial hash.Sha1 = Sha1.initial_hash
sha1_initial hash.Sha224 = []
sha1_initial hash.Sha256 = []
sha1_initial hash.Sha384 = []
sha1_initial hash.Sha512 = []

abbrev pub sha1_digest : HashName → List ℕ → List ℕ
sha1_digest hash.Sha1 s = Sha1.digest_bytes s 5
sha1_digest hash.Sha224 s = []
sha1_digest hash.Sha256 s = []
sha1_digest hash.Sha384 s = []
sha1_digest hash.Sha512 s = []

abbrev pub sha1_hashing : Hashing
sha1_hashing = record {
  serves = is_sha1;
  block_bytes = sha1_lengths.block;
  padding = Sha1.padding;
  compress = Sha1.compress;
  words = 5;
  initial = sha1_initial;
  digest = sha1_digest;
  state_bytes = sha1_lengths.state;
  stored = λ s. Sha1.digest_bytes s 5;
  loaded = λ bytes. Sha1.first_words bytes 5;
}

-- ---- SHA-224 and SHA-256

abbrev pub is_sha256 : HashName → Bool
is_sha256 hash.Sha1 = false
is_sha256 hash.Sha224 = true
is_sha256 hash.Sha256 = true
is_sha256 hash.Sha384 = false
is_sha256 hash.Sha512 = false

-- the initial hash value (FIPS 180-4, 5.3.2 and 5.3.3), and the digest (6.2 and 6.3)
abbrev pub sha256_initial : HashName → List ℕ
sha256_initial hash.Sha1 = []
sha256_initial hash.Sha224 = Sha256.initial_hash_224
sha256_initial hash.Sha256 = Sha256.initial_hash_256
sha256_initial hash.Sha384 = []
sha256_initial hash.Sha512 = []

abbrev pub sha256_digest : HashName → List ℕ → List ℕ
sha256_digest hash.Sha1 s = []
sha256_digest hash.Sha224 s = take sha224_lengths.digest (Sha256.digest_bytes s 8)
sha256_digest hash.Sha256 s = Sha256.digest_bytes s 8
sha256_digest hash.Sha384 s = []
sha256_digest hash.Sha512 s = []

abbrev pub sha256_hashing : Hashing
sha256_hashing = record {
  serves = is_sha256;
  block_bytes = sha256_lengths.block;
  padding = Sha256.padding;
  compress = Sha256.compress;
  words = 8;
  initial = sha256_initial;
  digest = sha256_digest;
  state_bytes = sha256_lengths.state;
  stored = λ s. Sha256.digest_bytes s 8;
  loaded = λ bytes. Sha256.first_words bytes 8;
}

-- ---- SHA-384 and SHA-512

abbrev pub is_sha512 : HashName → Bool
is_sha512 hash.Sha1 = false
is_sha512 hash.Sha224 = false
is_sha512 hash.Sha256 = false
is_sha512 hash.Sha384 = true
is_sha512 hash.Sha512 = true

-- the initial hash value (FIPS 180-4, 5.3.4 and 5.3.5), and the digest (6.4 and 6.5)
abbrev pub sha512_initial : HashName → List ℕ
sha512_initial hash.Sha1 = []
sha512_initial hash.Sha224 = []
sha512_initial hash.Sha256 = []
sha512_initial hash.Sha384 = Sha512.initial_hash_384
sha512_initial hash.Sha512 = Sha512.initial_hash_512

abbrev pub sha512_digest : HashName → List ℕ → List ℕ
sha512_digest hash.Sha1 s = []
sha512_digest hash.Sha224 s = []
sha512_digest hash.Sha256 s = []
sha512_digest hash.Sha384 s = take sha384_lengths.digest (Sha512.digest_bytes s 8)
sha512_digest hash.Sha512 s = Sha512.digest_bytes s 8

abbrev pub sha512_hashing : Hashing
sha512_hashing = record {
  serves = is_sha512;
  block_bytes = sha512_lengths.block;
  padding = Sha512.padding;
  compress = Sha512.compress;
  words = 8;
  initial = sha512_initial;
  digest = sha512_digest;
  state_bytes = sha512_lengths.state;
  stored = λ s. Sha512.digest_bytes s 8;
  loaded = λ bytes. Sha512.first_words bytes 8;
}
