-- The key of a cipher is read exactly as it is spelled: its bytes, or the number of the session that it is from.
use Rattle.std.proofs.Common.{◌≡◌, ◌∙◌, ◌==◌, ap, sym, subst, refl, ℕ, Bool, true, false, cond, List, [], ◌∷◌, Option, Some, None, Ok, Err, length, inl, inr, arith, codes}
use Rattle.std.specs.Prelude.{option_map, slice_get, ◌%◌}
use Rattle.std.specs.Option.{option_and_then}
use Rattle.std.proofs.lemmas.Bool.{eqb-true}
use Rattle.hex.specs.Hex.{decode_of, decode_pairs}
use Rattle.hex.specs.declared.error.FromHexError.TheVariants.{InvalidHexCharacter, OddLength}
use Rattle.mbj_text.specs.Spelling.{SpellsBytes, SpellsCipherKey}
use Rattle.mbj_text.specs.Inside.Reading.{at_sign, bytes_of, cipher_key_of, key_at, spelled_number}
use Rattle.mbj_text.proofs.ValueLaws.{bytes_read, bytes_back, number_read, number_back}

-- a key and the session that it is from
abbrev CipherKey : Type 0
CipherKey = List ℕ × Option ℕ

-- bytes are the key of no session
abbrev raw : List ℕ → CipherKey
raw key = (key, None)

-- a text as a key, given whether its first byte is `@`
abbrev by_sign : List (List ℕ) → Bool → ℕ → List ℕ → Option CipherKey
by_sign keys b first rest =
    cond b (option_and_then (key_at keys) (spelled_number rest)) (option_map raw (bytes_of (first ∷ rest)))

-- a key that is read is spelled
pub cipher_key_read : (keys : List (List ℕ)) (t : List ℕ) (k : CipherKey) → cipher_key_of keys t ≡ Some k → SpellsCipherKey keys t k
cipher_key_read keys [] k h = cc
cipher_key_read keys (first ∷ rest) k h = go (first == at_sign) refl h
  where
    by_key : (n : ℕ) (o : Option (List ℕ)) → slice_get keys n ≡ o → first ≡ at_sign → spelled_number rest ≡ Some n
        → option_map (λ (key : List ℕ). (key, Some n)) o ≡ Some k → SpellsCipherKey keys (first ∷ rest) k
    by_key n None e sign is q = cc
    by_key n (Some key) e sign is q =
        let same : (key, Some n) ≡ k = cc in
        subst (λ (k : CipherKey). SpellsCipherKey keys (first ∷ rest) k) same (rest, ap (λ (x : ℕ). x ∷ rest) sign, number_read rest n is, e)

    by_number : (o : Option ℕ) → spelled_number rest ≡ o → first ≡ at_sign → option_and_then (key_at keys) o ≡ Some k → SpellsCipherKey keys (first ∷ rest) k
    by_number None is sign q = cc
    by_number (Some n) is sign q = by_key n (slice_get keys n) refl sign is q

    by_bytes : (o : Option (List ℕ)) → bytes_of (first ∷ rest) ≡ o → option_map raw o ≡ Some k → SpellsCipherKey keys (first ∷ rest) k
    by_bytes None is q = cc
    by_bytes (Some key) is q =
        let same : raw key ≡ k = cc in
        subst (λ (k : CipherKey). SpellsCipherKey keys (first ∷ rest) k) same (bytes_read (first ∷ rest) key is)

    go : (b : Bool) → (first == at_sign) ≡ b → by_sign keys b first rest ≡ Some k → SpellsCipherKey keys (first ∷ rest) k
    go true e q = by_number (spelled_number rest) refl (eqb-true first at_sign e) q
    go false e q = by_bytes (bytes_of (first ∷ rest)) refl q

-- `@` is no digit
no_digit : (rest bytes : List ℕ) → decode_pairs 0 (at_sign ∷ rest) ≡ Ok bytes → ⊥
unfolding decode_pairs
no_digit [] bytes h = let odd : decode_pairs 0 (at_sign ∷ []) ≡ Err OddLength = refl in let both = sym odd ∙ h in cc
no_digit (low ∷ rest) bytes h =
    let bad : decode_pairs 0 (at_sign ∷ low ∷ rest) ≡ Err (InvalidHexCharacter at_sign 0) = refl in
    let both = sym bad ∙ h in cc

-- no bytes are spelled behind `@`
no_bytes : (b : Bool) (rest bytes : List ℕ) → cond b (Err OddLength) (decode_pairs 0 (at_sign ∷ rest)) ≡ Ok bytes → ⊥
no_bytes true rest bytes h = cc
no_bytes false rest bytes h = no_digit rest bytes h

no_bar : (first : ℕ) (rest : List ℕ) → first ∷ rest ≡ codes "-" → first ≡ at_sign → ⊥
no_bar first rest bar sign = let same : first ≡ 45 = cc in omega (arith, same, sign)

no_hex : (first : ℕ) (rest bytes : List ℕ) → decode_of (first ∷ rest) ≡ Ok bytes → first ≡ at_sign → ⊥
no_hex first rest bytes hex sign =
    let both : decode_of (at_sign ∷ rest) ≡ Ok bytes = ap (λ (x : ℕ). decode_of (x ∷ rest)) (sym sign) ∙ hex in
    no_bytes (length (at_sign ∷ rest) % 2 == 1) rest bytes both

sign_is_no_digit : (first : ℕ) (rest bytes : List ℕ) → SpellsBytes (first ∷ rest) bytes → first ≡ at_sign → ⊥
sign_is_no_digit first rest bytes (inl bar) sign = no_bar first rest bar.0 sign
sign_is_no_digit first rest bytes (inr hex) sign = no_hex first rest bytes hex.1 sign

-- a key that is spelled is read
pub cipher_key_back : (keys : List (List ℕ)) (t : List ℕ) (k : CipherKey) → SpellsCipherKey keys t k → cipher_key_of keys t ≡ Some k
cipher_key_back keys [] (key, None) s = let none = bytes_back [] key s in cc
cipher_key_back keys (first ∷ rest) (key, None) s = go (first == at_sign) refl
  where
    go : (b : Bool) → (first == at_sign) ≡ b → by_sign keys b first rest ≡ Some (raw key)
    go true e = absurd (sign_is_no_digit first rest key s (eqb-true first at_sign e))
    go false e = ap (option_map raw) (bytes_back (first ∷ rest) key s)
cipher_key_back keys t (key, Some n) (digits, is, number, at) =
    ap (cipher_key_of keys) is ∙ ap (option_and_then (key_at keys)) (number_back digits n number)
    ∙ ap (option_map (λ (key : List ℕ). (key, Some n))) at
