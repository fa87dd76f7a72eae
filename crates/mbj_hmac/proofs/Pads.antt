-- The key with a pad, as an entry takes it from the key of a block.
use Rattle.std.proofs.Common.{◌≡◌, ℕ, ◌≤◌, List, ◌++◌, length, take, ap, ◌∙◌, arith}
use Rattle.std.specs.Prelude.{replicate}
use Rattle.mbj_types.specs.declared.class.HashName.{HashName}
use Rattle.mbj_types.specs.Hmac.{Hash, block_key, padded_key}
use Rattle.mbj_hmac.specs.Rounds.{Hashing, hashed}
use Rattle.mbj_hmac.specs.Inside.Layout.{IsStandard}
use Rattle.mbj_hmac.proofs.Keys.{padded_key-front, length-block_key}

module _ (h : Hashing) (std : IsStandard h) (a : HashName) (hash : Hash) (key x : List ℕ) where
  -- the first bytes of a key of a block that is filled up with zeros, with a pad
  pub pad_of : (pad n : ℕ) → ((m : List ℕ) → hash.digest m ≡ h.digest a (hashed h a m)) → hash.block_bytes ≡ h.block_bytes
      → x ≡ block_key hash key ++ replicate n 0 → take h.block_bytes (padded_key pad x) ≡ padded_key pad (block_key hash key)
  pad_of pad n is size e =
      let short : (m : List ℕ) → length (hash.digest m) ≤ hash.block_bytes = λ m. omega (arith, ap length (is m), std.room a (hashed h a m), size) in
      ap (λ l. take h.block_bytes (padded_key pad l)) e
      ∙ padded_key-front pad (block_key hash key) (replicate n 0) h.block_bytes (length-block_key hash key short ∙ size)
