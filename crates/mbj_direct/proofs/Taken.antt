-- What a state that has taken a text becomes.
use Rattle.std.proofs.Common.{◌≡◌, ℕ, ◌%◌, ◌^◌, ◌≤◌, Bool, true, false, List, [], ◌∷◌, ◌++◌, length, drop, refl, sym, ap, ap₂, ◌∙◌, subst, arith}
use Rattle.std.specs.Prelude.{if◌then◌else◌}
use Rattle.mbj_types.specs.Aes.{aes, encipher, key_schedule}
use Rattle.mbj_types.specs.Blocks.{xor_lists, zero_block, filled_blocks}
use Rattle.mbj_types.specs.Ghash.{ghash}
use Rattle.mbj_types.specs.Gcm.{bit_length, gcm, gcm_text, pre_counter_block}
use Rattle.mbj_aes.proofs.Rounds.{length-encipher}
use Rattle.mbj_direct.specs.declared.hash.PartHash.{PartHash}
use Rattle.mbj_direct.specs.declared.parts.GcmState.{GcmState}
use Rattle.mbj_direct.specs.Hashed.{IsHashed}
use Rattle.mbj_direct.specs.Inside.Stream.{streamed}
use Rattle.mbj_direct.specs.Parts.{HasTaken, key_of}
use Rattle.mbj_direct.proofs.States.{enciphers, length-pre_counter_block}
use Rattle.mbj_direct.proofs.Streams.{streamed-mod, length-gcm_text, gcm_text-behind, gcm_text-append}

module _ (key iv aad text : List ℕ) (sealing : Bool) (s : GcmState) (h : HasTaken key iv aad sealing text s)
    (w : List ℕ) (is : w ≡ key_schedule (key_of s)) (long : 16 ≤ length w) where
  abbrev e : List ℕ → List ℕ
  e = aes key

  same : encipher w ≡ e
  same = enciphers key w (is ∙ ap key_schedule h.held)

  sizes : (b : List ℕ) → length (e b) ≡ 16
  sizes b = ap (λ (f : List ℕ → List ℕ). length (f b)) (sym same) ∙ length-encipher w b long

  size : length (pre_counter_block (e zero_block) iv) ≡ 16
  size = length-pre_counter_block (e zero_block) iv

  -- the ciphertext is as long as the text
  cipher_size : (b : Bool) → length (if b then gcm_text e iv text else text) ≡ length text
  cipher_size true = length-gcm_text e iv sizes size text
  cipher_size false = refl

  place : s.hash.bytes % 2 ^ 64 ≡ length text % 2 ^ 64
  place = omega (arith, h.hashed.bytes, cipher_size sealing)

  -- what is xored at the place of the state
  out_is : (part out : List ℕ) → out ≡ streamed (encipher w) s.pre_counter s.hash.bytes part
      → out ≡ streamed e (pre_counter_block (e zero_block) iv) (length text) part
  out_is part out x =
      x
      ∙ ap₂ (λ f j. streamed f j s.hash.bytes part) same h.pre_counter
      ∙ streamed-mod e (pre_counter_block (e zero_block) iv) s.hash.bytes (length text) part place

  -- is the part of the other text
  part_at : (part out : List ℕ) → out ≡ streamed (encipher w) s.pre_counter s.hash.bytes part
      → out ≡ drop (length text) (gcm_text e iv (text ++ part))
  part_at part out x = out_is part out x ∙ sym (gcm_text-behind e iv sizes size text part)

  -- and of the ciphertext
  cipher_at : (part out : List ℕ) → out ≡ streamed (encipher w) s.pre_counter s.hash.bytes part
      → gcm_text e iv text ++ out ≡ gcm_text e iv (text ++ part)
  cipher_at part out x =
      ap (λ xs. gcm_text e iv text ++ xs) (out_is part out x) ∙ sym (gcm_text-append e iv sizes size text part)

pub part_is : (key iv aad text part : List ℕ) (sealing : Bool) (s : GcmState) (w out : List ℕ)
    → w ≡ key_schedule (key_of s) → 16 ≤ length w → HasTaken key iv aad sealing text s
    → out ≡ streamed (encipher w) s.pre_counter s.hash.bytes part
    → out ≡ drop (length text) (gcm_text (aes key) iv (text ++ part))
part_is key iv aad text part sealing s w out is long h x = part_at key iv aad text sealing s h w is long part out x

-- a state that differs in its hash alone
abbrev pub with_hash : GcmState → PartHash → GcmState
with_hash s t = record s { hash = t }

pub opened_next : (key iv aad text part : List ℕ) (sealing : Bool) (s : GcmState) (t : PartHash) → s.dir ≡ 1
    → HasTaken key iv aad sealing text s → t.subkey ≡ s.hash.subkey
    → ((xs : List (List ℕ)) (d : List ℕ) → IsHashed xs d s.hash → IsHashed xs (d ++ part) t)
    → HasTaken key iv aad sealing (text ++ part) (with_hash s t)
opened_next key iv aad text part true s t opens h subkey next = absurd (omega (arith, h.dir))
opened_next key iv aad text part false s t opens h subkey next = record {
  held = h.held;
  dir = h.dir;
  pre_counter = h.pre_counter;
  aad_size = h.aad_size;
  subkey = subkey ∙ h.subkey;
  hashed = next (filled_blocks aad) text h.hashed;
}

pub sealed_next : (key iv aad text part : List ℕ) (sealing : Bool) (s : GcmState) (t : PartHash) (w out : List ℕ)
    → w ≡ key_schedule (key_of s) → 16 ≤ length w → (s.dir ≡ 1 → ⊥) → HasTaken key iv aad sealing text s
    → out ≡ streamed (encipher w) s.pre_counter s.hash.bytes part → t.subkey ≡ s.hash.subkey
    → ((xs : List (List ℕ)) (d : List ℕ) → IsHashed xs d s.hash → IsHashed xs (d ++ out) t)
    → HasTaken key iv aad sealing (text ++ part) (with_hash s t)
sealed_next key iv aad text part false s t w out is long seals h x subkey next = absurd (seals h.dir)
sealed_next key iv aad text part true s t w out is long seals h x subkey next = record {
  held = h.held;
  dir = h.dir;
  pre_counter = h.pre_counter;
  aad_size = h.aad_size;
  subkey = subkey ∙ h.subkey;
  hashed =
      subst (λ (d : List ℕ). IsHashed (filled_blocks aad) d t) (cipher_at key iv aad text true s h w is long part out x)
      (next (filled_blocks aad) (gcm_text (aes key) iv text) h.hashed);
}

-- the tag
pub tag_is : (key iv aad text : List ℕ) (sealing : Bool) (s : GcmState) (w mask hash : List ℕ)
    → w ≡ key_schedule (key_of s) → 16 ≤ length w → HasTaken key iv aad sealing text s
    → mask ≡ encipher w s.pre_counter
    → ((xs : List (List ℕ)) (d : List ℕ) → IsHashed xs d s.hash
    → hash ≡ ghash s.hash.subkey (xs ++ filled_blocks d ++ (bit_length s.aad_bytes ++ bit_length (length d)) ∷ []))
    → xor_lists mask hash ≡ (gcm (aes key) iv aad text sealing).1
tag_is key iv aad text sealing s w mask hash is long h m hashed =
    let e : List ℕ → List ℕ = aes key in
    let d : List ℕ = if sealing then gcm_text e iv text else text in
    let lengths : ℕ → List ℕ = λ n. bit_length n ++ bit_length (length d) in
    ap₂ xor_lists
    (m ∙ ap₂ (λ f j. f j) (enciphers key w (is ∙ ap key_schedule h.held)) h.pre_counter)
    (hashed (filled_blocks aad) d h.hashed
    ∙ ap₂ (λ k n. ghash k (filled_blocks aad ++ filled_blocks d ++ lengths n ∷ [])) h.subkey h.aad_size)
