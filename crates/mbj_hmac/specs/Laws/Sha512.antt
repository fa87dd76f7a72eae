-- SHA-384 and SHA-512 are as an entry takes them.
use Rattle.std.proofs.Common.{◌≡◌, ℕ, zero, suc, ◌+◌, ◌-◌, ◌*◌, ◌/◌, ◌%◌, ◌^◌, ◌≤◌, ◌<◌, List, ◌∷◌, ◌++◌, inr, length, take, drop, refl, sym, ap, ap₂, ◌∙◌, arith, length-append, length-take}
use Rattle.std.specs.Prelude.{IsTrue, replicate, slice_index}
use Rattle.std.proofs.lemmas.List.{replicate-append-replicate, append_assoc}
use Rattle.std.proofs.lemmas.Nat.{from_be_bytes-to_be_bytes_8}
use Rattle.std.specs.Int.{w64, w128, to_be_bytes}
use Rattle.sha2.specs.Sha512.{sha384, sha512, hash_after, final_hash, padded_message, compress, padding, digest_bytes, add64, add_state, first_words, rounds, schedule}
use Rattle.mbj_types.specs.declared.class.HashName.{HashName}
use Rattle.mbj_types.specs.declared.class.HashName.TheVariants.{Sha1, Sha224, Sha256, Sha384, Sha512}
use Rattle.mbj_types.specs.Auths.{compression_of_name, hash_of_name}
use Rattle.mbj_hmac.specs.Rounds.{chained, compression, hashed}
use Rattle.mbj_hmac.specs.Hashings.{is_sha512, sha512_initial, sha512_digest, sha512_hashing}
use Rattle.mbj_hmac.specs.Laws.Tests.{not_both}
use Rattle.mbj_hmac.specs.Inside.Layout.{IsStandard, fill, tail_blocks, padding_of}

pub length-digest_bytes : (s : List ℕ) (n : ℕ) → length (digest_bytes s n) ≡ 8 * n
unfolding digest_bytes
length-digest_bytes s zero = refl
length-digest_bytes s (suc n) = omega (arith, length-append (digest_bytes s n) (to_be_bytes w64 (slice_index s n)), length-digest_bytes s n)

-- the length of 16 bytes begins with 8 zero bytes
bits_of : (x : ℕ) → x < 2 ^ 64 → to_be_bytes w128 x ≡ replicate 8 0 ++ to_be_bytes w64 x
bits_of x lt =
    let z120 : x / 2 ^ 120 % 256 ≡ 0 = omega arith in
    let z112 : x / 2 ^ 112 % 256 ≡ 0 = omega arith in
    let z104 : x / 2 ^ 104 % 256 ≡ 0 = omega arith in
    let z96 : x / 2 ^ 96 % 256 ≡ 0 = omega arith in
    let z88 : x / 2 ^ 88 % 256 ≡ 0 = omega arith in
    let z80 : x / 2 ^ 80 % 256 ≡ 0 = omega arith in
    let z72 : x / 2 ^ 72 % 256 ≡ 0 = omega arith in
    let z64 : x / 2 ^ 64 % 256 ≡ 0 = omega arith in
    rw (z120, z112, z104, z96, z88, z80, z72, z64) refl

pads : (n : ℕ) → n < 2 ^ 33 → padding n ≡ padding_of 128 n
unfolding fill tail_blocks
pads n lt =
    let k : ℕ = (239 - n % 128) % 128 in
    let zeros : k + 8 ≡ 128 * ((n + 16) / 128 + 1 - n / 128) - n % 128 - 9 = omega arith in
    let bits : n * 8 % 2 ^ 128 ≡ n * 8 = omega arith in
    let long : to_be_bytes w128 (n * 8 % 2 ^ 128) ≡ replicate 8 0 ++ to_be_bytes w64 (n * 8) = ap (to_be_bytes w128) bits ∙ bits_of (n * 8) (omega arith) in
    ap (λ z. 0x80 ∷ replicate k 0 ++ z) long
    ∙ ap (λ z. 0x80 ∷ z) (sym (append_assoc (replicate k 0) (replicate 8 0) (to_be_bytes w64 (n * 8))) ∙ ap (λ z. z ++ to_be_bytes w64 (n * 8)) (replicate-append-replicate k 8 0 ∙ ap (λ m. replicate m 0) zeros))

room : (a : HashName) (s : List ℕ) → length (sha512_digest a s) + 1 + 16 ≤ 128
room Sha1 s = omega arith
room Sha224 s = omega arith
room Sha256 s = omega arith
room Sha384 s = omega (arith, length-take 48 (digest_bytes s 8))
room Sha512 s = omega (arith, length-digest_bytes s 8)

-- a sum of words is a word, which its bytes hold
word : (x y : ℕ) → add64 x y < 2 ^ 64
word x y = omega arith

before : (x y : ℕ) (xs ys : List ℕ) → x ≡ y → xs ≡ ys → x ∷ xs ≡ y ∷ ys
before x y xs ys e f = ap₂ (λ z zs. z ∷ zs) e f

kept_sum : (h v : List ℕ) → first_words (digest_bytes (add_state h v) 8) 8 ≡ add_state h v
unfolding digest_bytes first_words
kept_sum h v =
    let sum : ℕ → ℕ = λ i. add64 (slice_index h i) (slice_index v i) in
    let held : (i : ℕ) → _ = λ i. from_be_bytes-to_be_bytes_8 (sum i) (word (slice_index h i) (slice_index v i)) in
    before _ _ _ _ (held 0) (before _ _ _ _ (held 1) (before _ _ _ _ (held 2) (before _ _ _ _ (held 3)
    (before _ _ _ _ (held 4) (before _ _ _ _ (held 5) (before _ _ _ _ (held 6) (before _ _ _ _ (held 7) refl)))))))

kept : (s block : List ℕ) → first_words (digest_bytes (compress s block) 8) 8 ≡ compress s block
unfolding compress
kept s block = kept_sum s (rounds s (schedule block 64) 80)

pub sha512_standard : IsStandard sha512_hashing
sha512_standard = record { size = inr refl; pads = pads; room = room; whole = λ s. length-digest_bytes s 8; kept = kept }

chained_is : (a : HashName) (p : List ℕ) (n : ℕ) → chained sha512_hashing a p n ≡ hash_after (sha512_initial a) p n
unfolding hash_after
chained_is a p zero = refl
chained_is a p (suc n) = ap (λ s. compress s (take 128 (drop (n * 128) p))) (chained_is a p n)

final_is : (a : HashName) (m : List ℕ) → final_hash (sha512_initial a) m ≡ hashed sha512_hashing a m
final_is a m = sym (chained_is a (padded_message m) (length (padded_message m) / 128))

sha384_is : (m : List ℕ) → sha384 m ≡ sha512_digest Sha384 (hashed sha512_hashing Sha384 m)
unfolding sha384
sha384_is m = ap (λ s. take 48 (digest_bytes s 8)) (final_is Sha384 m)

sha512_is : (m : List ℕ) → sha512 m ≡ sha512_digest Sha512 (hashed sha512_hashing Sha512 m)
unfolding sha512
sha512_is m = ap (λ s. digest_bytes s 8) (final_is Sha512 m)

pub sha512_blocks : (a : HashName) → IsTrue (is_sha512 a) → (hash_of_name a).block_bytes ≡ 128
sha512_blocks Sha1 t = absurd (not_both t)
sha512_blocks Sha224 t = absurd (not_both t)
sha512_blocks Sha256 t = absurd (not_both t)
sha512_blocks Sha384 t = refl
sha512_blocks Sha512 t = refl

pub sha512_compressions : (a : HashName) → IsTrue (is_sha512 a) → compression_of_name a ≡ compression sha512_hashing a
sha512_compressions Sha1 t = absurd (not_both t)
sha512_compressions Sha224 t = absurd (not_both t)
sha512_compressions Sha256 t = absurd (not_both t)
sha512_compressions Sha384 t = refl
sha512_compressions Sha512 t = refl

pub sha512_hashes : (a : HashName) → IsTrue (is_sha512 a) → (m : List ℕ) → (hash_of_name a).digest m ≡ sha512_digest a (hashed sha512_hashing a m)
sha512_hashes Sha1 t m = absurd (not_both t)
sha512_hashes Sha224 t m = absurd (not_both t)
sha512_hashes Sha256 t m = absurd (not_both t)
sha512_hashes Sha384 t m = sha384_is m
sha512_hashes Sha512 t m = sha512_is m
