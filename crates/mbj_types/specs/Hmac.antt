-- HMAC (RFC 2104, 2) over the hashes of FIPS 180-4.
use Rattle.std.specs.Prelude.{ℕ, ◌-◌, Bool, List, ◌++◌, length, replicate, map, nat_le, bit_xor, if◌then◌else◌}
use Rattle.sha1.specs.Sha1.{sha1}
use Rattle.sha2.specs.Sha256.{sha224, sha256}
use Rattle.sha2.specs.Sha512.{sha384, sha512}
use Rattle.mbj_types.specs.Hashes.{Lengths, sha1_lengths, sha224_lengths, sha256_lengths, sha384_lengths, sha512_lengths}
use Rattle.mbj_types.specs.declared.limits.hmac.TheConstants.{MAX_HMAC_KEY_BYTES}

-- a hash, with the bytes of its block and of its digest
pub record Hash : Type 0 where
  pub digest : List ℕ → List ℕ
  pub block_bytes : ℕ
  pub digest_bytes : ℕ

-- what makes the digest, and the lengths
abbrev pub hash_by : (List ℕ → List ℕ) → Lengths → Hash
hash_by digest lengths = record { digest = digest; block_bytes = lengths.block; digest_bytes = lengths.digest }

abbrev pub sha1_hash : Hash
sha1_hash = hash_by sha1 sha1_lengths

abbrev pub sha224_hash : Hash
sha224_hash = hash_by sha224 sha224_lengths

abbrev pub sha256_hash : Hash
sha256_hash = hash_by sha256 sha256_lengths

abbrev pub sha384_hash : Hash
sha384_hash = hash_by sha384 sha384_lengths

abbrev pub sha512_hash : Hash
sha512_hash = hash_by sha512 sha512_lengths

-- the key filled with zero bytes to a block
abbrev pub filled_key : ℕ → List ℕ → List ℕ
filled_key block_bytes key = key ++ replicate (block_bytes - length key) 0

-- the key of one block (RFC 2104, 2): a key longer than a block is hashed first
abbrev pub block_key : Hash → List ℕ → List ℕ
block_key h key =
    if nat_le (length key) h.block_bytes then filled_key h.block_bytes key else filled_key h.block_bytes (h.digest key)

-- the bytes of a key, each xored with the byte of a pad
abbrev pub padded_key : ℕ → List ℕ → List ℕ
padded_key pad key = map (λ x. bit_xor x pad) key

-- the bytes of the inner and of the outer pad
abbrev pub ipad : ℕ
ipad = 0x36

abbrev pub opad : ℕ
opad = 0x5c

-- H(K' xor opad, H(K' xor ipad, m))
unfoldable pub hmac : Hash → List ℕ → List ℕ → List ℕ
hmac h key m =
    let inner = h.digest (padded_key ipad (block_key h key) ++ m) in
    h.digest (padded_key opad (block_key h key) ++ inner)

-- a key has at most this many bytes here
abbrev pub takes_key : ℕ → Bool
takes_key n = nat_le n MAX_HMAC_KEY_BYTES
