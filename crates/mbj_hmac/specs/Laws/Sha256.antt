-- SHA-224 and SHA-256 are as an entry takes them.
use Rattle.std.proofs.Common.{◌≡◌, ℕ, zero, suc, ◌+◌, ◌*◌, ◌/◌, ◌≤◌, List, inl, length, take, drop, refl, sym, ap, arith, length-take}
use Rattle.std.specs.Prelude.{IsTrue}
use Rattle.sha2.specs.Sha256.{sha224, sha256, hash_after, final_hash, padded_message, compress, digest_bytes, first_words, rounds, schedule}
use Rattle.mbj_types.specs.declared.class.HashName.{HashName}
use Rattle.mbj_types.specs.declared.class.HashName.TheVariants.{Sha1, Sha224, Sha256, Sha384, Sha512}
use Rattle.mbj_types.specs.Auths.{compression_of_name, hash_of_name}
use Rattle.mbj_hmac.specs.Rounds.{chained, compression, hashed}
use Rattle.mbj_hmac.specs.Hashings.{is_sha256, sha256_initial, sha256_digest, sha256_hashing}
use Rattle.mbj_hmac.specs.Laws.Stored32.{sha256_kept, sha256_whole}
use Rattle.mbj_hmac.specs.Laws.Padding64.{padding_is}
use Rattle.mbj_hmac.specs.Laws.Tests.{not_both}
use Rattle.mbj_hmac.specs.Inside.Layout.{IsStandard}

room : (a : HashName) (s : List ℕ) → length (sha256_digest a s) + 1 + 8 ≤ 64
room Sha1 s = omega arith
room Sha224 s = omega (arith, length-take 28 (digest_bytes s 8))
room Sha256 s = omega (arith, sha256_whole s 8)
room Sha384 s = omega arith
room Sha512 s = omega arith

kept : (s block : List ℕ) → first_words (digest_bytes (compress s block) 8) 8 ≡ compress s block
unfolding compress
kept s block = sha256_kept s (rounds s (schedule block 48) 64)

pub sha256_standard : IsStandard sha256_hashing
sha256_standard = record { size = inl refl; pads = padding_is; room = room; whole = λ s. sha256_whole s 8; kept = kept }

chained_is : (a : HashName) (p : List ℕ) (n : ℕ) → chained sha256_hashing a p n ≡ hash_after (sha256_initial a) p n
unfolding hash_after
chained_is a p zero = refl
chained_is a p (suc n) = ap (λ s. compress s (take 64 (drop (n * 64) p))) (chained_is a p n)

final_is : (a : HashName) (m : List ℕ) → final_hash (sha256_initial a) m ≡ hashed sha256_hashing a m
final_is a m = sym (chained_is a (padded_message m) (length (padded_message m) / 64))

sha224_is : (m : List ℕ) → sha224 m ≡ sha256_digest Sha224 (hashed sha256_hashing Sha224 m)
unfolding sha224
sha224_is m = ap (λ s. take 28 (digest_bytes s 8)) (final_is Sha224 m)

sha256_is : (m : List ℕ) → sha256 m ≡ sha256_digest Sha256 (hashed sha256_hashing Sha256 m)
unfolding sha256
sha256_is m = ap (λ s. digest_bytes s 8) (final_is Sha256 m)

pub sha256_blocks : (a : HashName) → IsTrue (is_sha256 a) → (hash_of_name a).block_bytes ≡ 64
sha256_blocks Sha1 t = absurd (not_both t)
sha256_blocks Sha224 t = refl
sha256_blocks Sha256 t = refl
sha256_blocks Sha384 t = absurd (not_both t)
sha256_blocks Sha512 t = absurd (not_both t)

pub sha256_compressions : (a : HashName) → IsTrue (is_sha256 a) → compression_of_name a ≡ compression sha256_hashing a
sha256_compressions Sha1 t = absurd (not_both t)
sha256_compressions Sha224 t = refl
sha256_compressions Sha256 t = refl
sha256_compressions Sha384 t = absurd (not_both t)
sha256_compressions Sha512 t = absurd (not_both t)

pub sha256_hashes : (a : HashName) → IsTrue (is_sha256 a) → (m : List ℕ) → (hash_of_name a).digest m ≡ sha256_digest a (hashed sha256_hashing a m)
sha256_hashes Sha1 t m = absurd (not_both t)
sha256_hashes Sha224 t m = sha224_is m
sha256_hashes Sha256 t m = sha256_is m
sha256_hashes Sha384 t m = absurd (not_both t)
sha256_hashes Sha512 t m = absurd (not_both t)
