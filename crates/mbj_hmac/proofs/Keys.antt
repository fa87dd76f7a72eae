-- Keys that are filled with zero bytes.
use Rattle.std.proofs.Common.{◌≡◌, ℕ, ◌+◌, ◌-◌, ◌≤◌, ◌<◌, List, ◌++◌, length, ap, sym, ◌∙◌, arith, append_assoc, refl, take, map, bit_xor, length-append, true, false, ◌⊎◌, inl, inr}
use Rattle.std.proofs.lemmas.List.{replicate-append-replicate, length-replicate, length-map, map-append}
use Rattle.std.proofs.Math.Seq.{take-append_seam}
use Rattle.std.specs.Prelude.{nat_le, replicate}
use Rattle.std.proofs.lemmas.Bool.Decides.{leb_tells}
use Rattle.std.proofs.lemmas.Bool.{le-leb, lt-leb}
use Rattle.mbj_types.specs.declared.class.HashName.{HashName}
use Rattle.mbj_types.specs.declared.class.HashName.TheVariants.{Sha1, Sha224, Sha256, Sha384, Sha512}
use Rattle.mbj_types.specs.Auths.{hash_of_name}
use Rattle.mbj_types.specs.Hmac.{Hash, filled_key, block_key, padded_key}

-- no hash has a longer block
pub block_at_most : (a : HashName) → (hash_of_name a).block_bytes ≤ 128
block_at_most Sha1 = omega arith
block_at_most Sha224 = omega arith
block_at_most Sha256 = omega arith
block_at_most Sha384 = omega arith
block_at_most Sha512 = omega arith

-- zeros up to n bytes are zeros up to the block and zeros behind it
pub filled_on : (key : List ℕ) (block_bytes n : ℕ) → length key ≤ block_bytes → block_bytes ≤ n
    → key ++ replicate (n - length key) 0 ≡ filled_key block_bytes key ++ replicate (n - block_bytes) 0
filled_on key b n h k =
    let sum : (b - length key) + (n - b) ≡ n - length key = omega arith in
    ap (λ m. key ++ replicate m 0) (sym sum)
    ∙ ap (λ z. key ++ z) (sym (replicate-append-replicate (b - length key) (n - b) 0))
    ∙ sym (append_assoc key (replicate (b - length key) 0) (replicate (n - b) 0))

-- a filled key is as long as the block
pub length-filled_key : (block_bytes : ℕ) (key : List ℕ) → length key ≤ block_bytes → length (filled_key block_bytes key) ≡ block_bytes
length-filled_key b key h = simp (length-append, length-replicate) (omega arith)

-- the key of a block is a key that is no longer than the block, filled
pub block_key-short : (h : Hash) (key : List ℕ) → length key ≤ h.block_bytes → block_key h key ≡ filled_key h.block_bytes key
block_key-short h key short = rw (le-leb (length key) h.block_bytes short) refl

-- the key of a block is the digest of a longer key, filled
pub block_key-long : (h : Hash) (key : List ℕ) → h.block_bytes < length key → block_key h key ≡ filled_key h.block_bytes (h.digest key)
block_key-long h key long = rw (lt-leb (length key) h.block_bytes long) refl

-- the front of a padded key is the padded front
pub padded_key-front : (pad : ℕ) (front rest : List ℕ) (n : ℕ) → length front ≡ n → take n (padded_key pad (front ++ rest)) ≡ padded_key pad front
padded_key-front pad front rest n h =
    let f : ℕ → ℕ = λ x. bit_xor x pad in
    ap (λ (l : List ℕ). take n l) (map-append f front rest)
    ∙ ap (λ (k : ℕ). take k (map f front ++ map f rest)) (sym h ∙ sym (length-map front f))
    ∙ take-append_seam (map f front) (map f rest)

-- the key of a block is as long as the block
pub length-block_key : (h : Hash) (key : List ℕ) → ((m : List ℕ) → length (h.digest m) ≤ h.block_bytes) → length (block_key h key) ≡ h.block_bytes
length-block_key h key short = go (leb_tells (length key) h.block_bytes)
  where
    go : ((nat_le (length key) h.block_bytes ≡ true) × (length key ≤ h.block_bytes)) ⊎ ((nat_le (length key) h.block_bytes ≡ false) × (h.block_bytes < length key))
        → length (block_key h key) ≡ h.block_bytes
    go (inl p) = ap length (block_key-short h key p.1) ∙ length-filled_key h.block_bytes key p.1
    go (inr p) = ap length (block_key-long h key p.1) ∙ length-filled_key h.block_bytes (h.digest key) (short key)
