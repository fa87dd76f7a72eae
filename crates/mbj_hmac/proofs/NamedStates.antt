-- The states of a key, by the name of the hash.
use Rattle.std.proofs.Common.{◌≡◌, ℕ, ◌+◌, ◌-◌, ◌*◌, List, ◌++◌, length, take, drop, refl, sym, ap, ap₂, ◌∙◌, arith}
use Rattle.std.proofs.lemmas.List.{drop-drop, drop-replicate, take-append-drop}
use Rattle.std.specs.Prelude.{replicate}
use Rattle.mbj_types.specs.declared.class.HashName.{HashName}
use Rattle.mbj_types.specs.declared.class.HashName.TheVariants.{Sha1, Sha224, Sha256, Sha384, Sha512}
use Rattle.mbj_types.specs.Auths.{compression_of_name, hash_of_name}
use Rattle.mbj_types.specs.Hmac.{block_key, padded_key, hmac}
use Rattle.mbj_types.specs.States.{hmac_from_states, key_states}
use Rattle.mbj_hmac.specs.Rounds.{Hashing, compression, hashed}
use Rattle.mbj_hmac.specs.Hashings.{sha1_hashing, sha256_hashing, sha512_hashing}
use Rattle.mbj_hmac.specs.Inside.Layout.{IsStandard}
use Rattle.mbj_hmac.specs.Laws.Sha1.{sha1_standard, sha1_blocks, sha1_hashes}
use Rattle.mbj_hmac.specs.Laws.Sha256.{sha256_standard, sha256_blocks, sha256_hashes}
use Rattle.mbj_hmac.specs.Laws.Sha512.{sha512_standard, sha512_blocks, sha512_hashes}
use Rattle.mbj_hmac.proofs.KeyStates.{key_hmac, length-key_states}
use Rattle.mbj_hmac.proofs.Pads.{pad_of}

-- a hash and the lanes that serve it
record IsServed (h : Hashing) (a : HashName) : Type 0 where
  pub is : compression_of_name a ≡ compression h a
  pub size : (hash_of_name a).block_bytes ≡ h.block_bytes
  pub hashes : (m : List ℕ) → (hash_of_name a).digest m ≡ h.digest a (hashed h a m)

by_name : (P : HashName → Type 0) → ((h : Hashing) → IsStandard h → (a : HashName) → IsServed h a → P a) → (a : HashName) → P a
by_name P p Sha1 = p sha1_hashing sha1_standard Sha1 (record { is = refl; size = sha1_blocks Sha1 refl; hashes = sha1_hashes Sha1 refl })
by_name P p Sha224 = p sha256_hashing sha256_standard Sha224 (record { is = refl; size = sha256_blocks Sha224 refl; hashes = sha256_hashes Sha224 refl })
by_name P p Sha256 = p sha256_hashing sha256_standard Sha256 (record { is = refl; size = sha256_blocks Sha256 refl; hashes = sha256_hashes Sha256 refl })
by_name P p Sha384 = p sha512_hashing sha512_standard Sha384 (record { is = refl; size = sha512_blocks Sha384 refl; hashes = sha512_hashes Sha384 refl })
by_name P p Sha512 = p sha512_hashing sha512_standard Sha512 (record { is = refl; size = sha512_blocks Sha512 refl; hashes = sha512_hashes Sha512 refl })

-- the block of a key with a pad
pub named_pad : (a : HashName) (key x : List ℕ) (pad n : ℕ) → x ≡ block_key (hash_of_name a) key ++ replicate n 0
    → take (hash_of_name a).block_bytes (padded_key pad x) ≡ padded_key pad (block_key (hash_of_name a) key)
named_pad a key x pad n =
    by_name (λ a. x ≡ block_key (hash_of_name a) key ++ replicate n 0
    → take (hash_of_name a).block_bytes (padded_key pad x) ≡ padded_key pad (block_key (hash_of_name a) key))
    (λ h std a s e. ap (λ k. take k (padded_key pad x)) s.size ∙ pad_of h std a (hash_of_name a) key x pad n s.hashes s.size e) a

pub length-named_states : (a : HashName) (key : List ℕ)
    → length (key_states (hash_of_name a) (compression_of_name a) key) ≡ 2 * (compression_of_name a).state_bytes
length-named_states a key =
    by_name (λ a. length (key_states (hash_of_name a) (compression_of_name a) key) ≡ 2 * (compression_of_name a).state_bytes)
    (λ h std a s. rw s.is (length-key_states h std a (hash_of_name a) s.hashes s.size key)) a

-- from the states of a key the HMAC of a message is that under the key
pub named_hmac : (a : HashName) (key m : List ℕ)
    → hmac_from_states (compression_of_name a) (key_states (hash_of_name a) (compression_of_name a) key) m ≡ hmac (hash_of_name a) key m
named_hmac a key m =
    by_name (λ a. hmac_from_states (compression_of_name a) (key_states (hash_of_name a) (compression_of_name a) key) m ≡ hmac (hash_of_name a) key m)
    (λ h std a s. rw s.is (key_hmac h std a (hash_of_name a) s.hashes s.size key m)) a

-- two states of n bytes, stored one behind the other, and zeros behind them
pub stored_both : (n r k : ℕ) (one both a b : List ℕ) → r ≡ 0 + n → take (0 + n) one ≡ a → drop (0 + n) one ≡ drop (0 + n) (replicate k 0)
    → take (r + n) both ≡ take r one ++ b → drop (r + n) both ≡ drop (r + n) one → both ≡ (a ++ b) ++ replicate (k - 2 * n) 0
stored_both n r k one both a b e first behind second last =
    let place : r + n ≡ 2 * n = omega arith in
    let place' : (0 + n) + n ≡ r + n = omega arith in
    let zeros : drop (r + n) one ≡ replicate (k - 2 * n) 0 =
    ap (λ i. drop i one) (sym place') ∙ sym (drop-drop n (0 + n) one) ∙ ap (drop n) behind ∙ drop-drop n (0 + n) (replicate k 0)
    ∙ ap (λ i. drop i (replicate k 0)) (place' ∙ place) ∙ drop-replicate (2 * n) k 0 in
    sym (take-append-drop (r + n) both)
    ∙ ap₂ (λ x y. x ++ y) (second ∙ ap (λ x. x ++ b) (ap (λ i. take i one) e ∙ first)) (last ∙ zeros)
