-- From the states of a key the HMAC of each message is that under the key.
use Rattle.std.proofs.Common.{◌≡◌, ℕ, zero, suc, ◌+◌, ◌*◌, ◌/◌, ◌≤◌, List, ◌++◌, length, take, drop, sym, ap, ap₂, ◌∙◌, arith, length-append}
use Rattle.std.proofs.lemmas.List.{append_assoc, length-map, take_at}
use Rattle.std.proofs.Math.Seq.{drop-append_seam}
use Rattle.std.specs.Prelude.{bit_xor}
use Rattle.mbj_types.specs.declared.class.HashName.{HashName}
use Rattle.mbj_types.specs.Hmac.{Hash, block_key, padded_key, hmac, ipad, opad}
use Rattle.mbj_types.specs.States.{Compression, block_state, digest_from, hash_from, hmac_from_states, key_states}
use Rattle.mbj_hmac.specs.Rounds.{Hashing, compression, hashed, padded}
use Rattle.mbj_hmac.specs.Inside.Layout.{IsStandard}
use Rattle.mbj_hmac.proofs.Keys.{length-block_key}
use Rattle.mbj_hmac.proofs.Numbers.{by_size}
use Rattle.mbj_hmac.proofs.Texts.{block_right}

-- the first block of a text leads to a hash value, from which its other blocks go on
from_next : (compress : List ℕ → List ℕ → List ℕ) (b : ℕ) (s block text : List ℕ) (n : ℕ) → length block ≡ b
    → hash_from compress b s (block ++ text) (suc n) ≡ hash_from compress b (compress s block) text n
from_next compress b s block text zero l =
    let first : 0 * b ≡ 0 = omega arith in
    ap (λ n. compress s (take b (drop n (block ++ text)))) first ∙ ap (compress s) (take_at block text b l)
from_next compress b s block text (suc n) l =
    let place : length block + n * b ≡ suc n * b = omega (arith, l) in
    ap₂ compress (from_next compress b s block text n l) (block_right b (suc n * b) (n * b) block text place)

module _ (h : Hashing) (std : IsStandard h) (a : HashName) (hash : Hash)
    (is : (m : List ℕ) → hash.digest m ≡ h.digest a (hashed h a m)) (size : hash.block_bytes ≡ h.block_bytes) where
  abbrev b : ℕ
  b = h.block_bytes

  abbrev c : Compression
  c = compression h a

  -- a block more
  one_more : (n : ℕ) → (b + n) / b ≡ suc (n / b)
  one_more n = by_size b std.size (λ b. (b + n) / b ≡ suc (n / b)) (omega arith) (omega arith)

  -- the digest of a message, from the state behind its first block
  pub from_block : (block m : List ℕ) → length block ≡ b → digest_from c (h.compress (h.initial a) block) m ≡ hash.digest (block ++ m)
  unfolding digest_from
  from_block block m l =
      let text : List ℕ = m ++ h.padding (b + length m) in
      let long : length (block ++ m) ≡ b + length m = length-append block m ∙ ap (λ n. n + length m) l in
      let all : padded h (block ++ m) ≡ block ++ text =
      ap (λ n. (block ++ m) ++ h.padding n) long ∙ append_assoc block m (h.padding (b + length m)) in
      let count : length (padded h (block ++ m)) / b ≡ suc (length text / b) =
      ap (λ x. length x / b) all ∙ ap (λ n. n / b) (length-append block text ∙ ap (λ n. n + length text) l) ∙ one_more (length text) in
      ap (h.digest a) (sym (ap₂ (λ x n. hash_from h.compress b (h.initial a) x n) all count ∙ from_next h.compress b (h.initial a) block text (length text / b) l))
      ∙ sym (is (block ++ m))

  module _ (key : List ℕ) where
    abbrev pad_block : ℕ → List ℕ
    pad_block pad = padded_key pad (block_key hash key)

    pub length-pad_block : (pad : ℕ) → length (pad_block pad) ≡ b
    length-pad_block pad =
        let short : (m : List ℕ) → length (hash.digest m) ≤ hash.block_bytes = λ m. omega (arith, ap length (is m), std.room a (hashed h a m), size) in
        length-map (block_key hash key) (λ x. bit_xor x pad) ∙ length-block_key hash key short ∙ size

    pub length-key_states : length (key_states hash c key) ≡ 2 * h.state_bytes
    length-key_states =
        omega (arith, length-append (block_state c (pad_block ipad)) (block_state c (pad_block opad)), std.whole (h.compress (h.initial a) (pad_block ipad)), std.whole (h.compress (h.initial a) (pad_block opad)))

    -- the states are loaded as they were
    inner_is : h.loaded (take h.state_bytes (key_states hash c key)) ≡ h.compress (h.initial a) (pad_block ipad)
    inner_is =
        ap h.loaded (take_at (block_state c (pad_block ipad)) (block_state c (pad_block opad)) h.state_bytes (std.whole (h.compress (h.initial a) (pad_block ipad))))
        ∙ std.kept (h.initial a) (pad_block ipad)

    outer_is : h.loaded (drop h.state_bytes (key_states hash c key)) ≡ h.compress (h.initial a) (pad_block opad)
    outer_is =
        ap (λ n. h.loaded (drop n (key_states hash c key))) (sym (std.whole (h.compress (h.initial a) (pad_block ipad))))
        ∙ ap h.loaded (drop-append_seam (block_state c (pad_block ipad)) (block_state c (pad_block opad)))
        ∙ std.kept (h.initial a) (pad_block opad)

    pub key_hmac : (m : List ℕ) → hmac_from_states c (key_states hash c key) m ≡ hmac hash key m
    unfolding hmac hmac_from_states
    key_hmac m =
        ap₂ (λ i o. digest_from c o (digest_from c i m)) inner_is outer_is
        ∙ ap (λ d. digest_from c (h.compress (h.initial a) (pad_block opad)) d) (from_block (pad_block ipad) m (length-pad_block ipad))
        ∙ from_block (pad_block opad) (hash.digest (pad_block ipad ++ m)) (length-pad_block opad)
