-- The keys of a set, looked at one after another.
use Rattle.std.proofs.Common.{◌≡◌, ◌∙◌, ◌<◌, ◌≤◌, ◌+◌, ℕ, List, [], ◌∷◌, ◌++◌, length, map, drop, take, slice_index_or, ap, refl, sym, true, false, Bool}
use Rattle.std.specs.Prelude.{◌&&◌}
use Rattle.std.proofs.Math.ListN.{drop_of_length-le}
use Rattle.std.proofs.lemmas.List.{drop_more, map-append, take_more}
use Rattle.mbj_aes.specs.Bytes.{IsKeySize}
use Rattle.mbj_types.specs.Aes.{is_key_size}
use Rattle.mbj_c.specs.declared.key_set.RawBytes.{RawBytes}
use Rattle.mbj_c.specs.KeySets.{are_keys, bytes_each}

-- whether the key at place i is one of AES, if r says so, and those behind it
pub keys-at : (keys : List RawBytes) (i : ℕ) (d : RawBytes) (r : Bool) → i < length keys
    → r ≡ is_key_size (length (slice_index_or keys i d).bytes.now)
    → are_keys (bytes_each (drop i keys)) ≡ (r && are_keys (bytes_each (drop (i + 1) keys)))
unfolding are_keys
keys-at keys i d r within is =
    ap (λ ks. are_keys (bytes_each ks)) (drop_more keys i d within)
    ∙ ap (λ b. b && are_keys (bytes_each (drop (i + 1) keys))) (sym is)

-- none is left
pub keys-end : (keys : List RawBytes) (i : ℕ) → length keys ≤ i → are_keys (bytes_each (drop i keys)) ≡ true
unfolding are_keys
keys-end keys i all = ap (λ ks. are_keys (bytes_each ks)) (drop_of_length-le keys all)

both-first : (a b : Bool) → (a && b) ≡ true → a ≡ true
both-first true b is = refl
both-first false b is = is

both-second : (a b : Bool) → (a && b) ≡ true → b ≡ true
both-second true b is = is
both-second false b is = absurd (cc)

-- the key at place i is one of AES if it is one and those behind it are
pub first-size : (keys : List RawBytes) (i : ℕ) (d : RawBytes) → i < length keys → are_keys (bytes_each (drop i keys)) ≡ true
    → IsKeySize (length (slice_index_or keys i d).bytes.now) × (are_keys (bytes_each (drop (i + 1) keys)) ≡ true)
first-size keys i d within are =
    let both = sym (keys-at keys i d _ within refl) ∙ are in
    (both-first _ _ both, both-second _ _ both)

-- one more is copied
pub copied-more : {V : Type 0} (f : V → List ℕ) (copies more : List V) (keys : List RawBytes) (i : ℕ) (d : RawBytes) (copy : V)
    → i < length keys → more ≡ copies ++ copy ∷ [] → f copy ≡ (slice_index_or keys i d).bytes.now
    → map f copies ≡ bytes_each (take i keys) → map f more ≡ bytes_each (take (i + 1) keys)
copied-more f copies more keys i d copy within is same before =
    ap (map f) is ∙ map-append f copies (copy ∷ []) ∙ ap (λ ys. ys ++ f copy ∷ []) before
    ∙ ap (λ y. bytes_each (take i keys) ++ y ∷ []) same
    ∙ sym (ap bytes_each (take_more keys i d within) ∙ map-append (λ (k : RawBytes). k.bytes.now) (take i keys) (slice_index_or keys i d ∷ []))
