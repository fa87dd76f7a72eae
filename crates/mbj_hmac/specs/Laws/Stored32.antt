-- A hash value with words of 32 bits is stored whole, and nothing of it is lost.
use Rattle.std.proofs.Common.{◌≡◌, ℕ, zero, suc, ◌*◌, ◌^◌, ◌<◌, List, ◌∷◌, length, refl, ap₂, arith, length-append}
use Rattle.std.specs.Prelude.{slice_index}
use Rattle.std.specs.Int.{w32, to_be_bytes}
use Rattle.std.proofs.lemmas.Nat.{from_be_bytes-to_be_bytes_4}
use Rattle.sha1.specs.Sha1 as Sha1
use Rattle.sha2.specs.Sha256 as Sha256

-- a sum of words is a word, which its bytes hold
word : (x y : ℕ) → Sha256.add32 x y < 2 ^ 32
word x y = omega arith

-- a word before others
before : (x y : ℕ) (xs ys : List ℕ) → x ≡ y → xs ≡ ys → x ∷ xs ≡ y ∷ ys
before x y xs ys e f = ap₂ (λ z zs. z ∷ zs) e f

pub sha1_whole : (s : List ℕ) (n : ℕ) → length (Sha1.digest_bytes s n) ≡ 4 * n
unfolding Sha1.digest_bytes
sha1_whole s zero = refl
sha1_whole s (suc n) = omega (arith, length-append (Sha1.digest_bytes s n) (to_be_bytes w32 (slice_index s n)), sha1_whole s n)

pub sha256_whole : (s : List ℕ) (n : ℕ) → length (Sha256.digest_bytes s n) ≡ 4 * n
unfolding Sha256.digest_bytes
sha256_whole s zero = refl
sha256_whole s (suc n) = omega (arith, length-append (Sha256.digest_bytes s n) (to_be_bytes w32 (slice_index s n)), sha256_whole s n)

pub sha1_kept : (h v : List ℕ) → Sha1.first_words (Sha1.digest_bytes (Sha1.add_state h v) 5) 5 ≡ Sha1.add_state h v
unfolding Sha1.digest_bytes Sha1.first_words
sha1_kept h v =
    let sum : ℕ → ℕ = λ i. Sha1.add32 (slice_index h i) (slice_index v i) in
    let held : (i : ℕ) → _ = λ i. from_be_bytes-to_be_bytes_4 (sum i) (word (slice_index h i) (slice_index v i)) in
    before _ _ _ _ (held 0) (before _ _ _ _ (held 1) (before _ _ _ _ (held 2) (before _ _ _ _ (held 3) (before _ _ _ _ (held 4) refl))))

pub sha256_kept : (h v : List ℕ) → Sha256.first_words (Sha256.digest_bytes (Sha256.add_state h v) 8) 8 ≡ Sha256.add_state h v
unfolding Sha256.digest_bytes Sha256.first_words
sha256_kept h v =
    let sum : ℕ → ℕ = λ i. Sha256.add32 (slice_index h i) (slice_index v i) in
    let held : (i : ℕ) → _ = λ i. from_be_bytes-to_be_bytes_4 (sum i) (word (slice_index h i) (slice_index v i)) in
    before _ _ _ _ (held 0) (before _ _ _ _ (held 1) (before _ _ _ _ (held 2) (before _ _ _ _ (held 3)
    (before _ _ _ _ (held 4) (before _ _ _ _ (held 5) (before _ _ _ _ (held 6) (before _ _ _ _ (held 7) refl)))))))
