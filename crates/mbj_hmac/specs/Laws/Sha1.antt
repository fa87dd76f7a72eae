-- SHA-1 is as an entry takes it.
use Rattle.std.proofs.Common.{◌≡◌, ℕ, zero, suc, ◌+◌, ◌*◌, ◌/◌, ◌≤◌, List, inl, length, take, drop, refl, sym, ap, arith}
use Rattle.std.specs.Prelude.{IsTrue}
use Rattle.sha1.specs.Sha1.{sha1, hash_after, padded_message, compress, digest_bytes, first_words, rounds, schedule}
use Rattle.mbj_types.specs.declared.class.HashName.{HashName}
use Rattle.mbj_types.specs.declared.class.HashName.TheVariants.{Sha1, Sha224, Sha256, Sha384, Sha512}
use Rattle.mbj_types.specs.Auths.{compression_of_name, hash_of_name}
use Rattle.mbj_hmac.specs.Rounds.{chained, compression, hashed}
use Rattle.mbj_hmac.specs.Hashings.{is_sha1, sha1_hashing, sha1_digest}
use Rattle.mbj_hmac.specs.Laws.Tests.{not_both}
use Rattle.mbj_hmac.specs.Laws.Stored32.{sha1_kept, sha1_whole}
use Rattle.mbj_hmac.specs.Laws.Padding64.{padding_is}
use Rattle.mbj_hmac.specs.Inside.Layout.{IsStandard}

room : (a : HashName) (s : List ℕ) → length (sha1_digest a s) + 1 + 8 ≤ 64
room Sha1 s = omega (arith, sha1_whole s 5)
room Sha224 s = omega arith
room Sha256 s = omega arith
room Sha384 s = omega arith
room Sha512 s = omega arith

kept : (s block : List ℕ) → first_words (digest_bytes (compress s block) 5) 5 ≡ compress s block
unfolding compress
kept s block = sha1_kept s (rounds s (schedule block 64) 80)

pub sha1_standard : IsStandard sha1_hashing
sha1_standard = record { size = inl refl; pads = padding_is; room = room; whole = λ s. sha1_whole s 5; kept = kept }

chained_is : (p : List ℕ) (n : ℕ) → chained sha1_hashing Sha1 p n ≡ hash_after p n
unfolding hash_after
chained_is p zero = refl
chained_is p (suc n) = ap (λ s. compress s (take 64 (drop (n * 64) p))) (chained_is p n)

sha1_is : (m : List ℕ) → sha1 m ≡ digest_bytes (hashed sha1_hashing Sha1 m) 5
unfolding sha1
sha1_is m = ap (λ s. digest_bytes s 5) (sym (chained_is (padded_message m) (length (padded_message m) / 64)))

pub sha1_blocks : (a : HashName) → IsTrue (is_sha1 a) → (hash_of_name a).block_bytes ≡ 64
sha1_blocks Sha1 t = refl
sha1_blocks Sha224 t = absurd (not_both t)
sha1_blocks Sha256 t = absurd (not_both t)
sha1_blocks Sha384 t = absurd (not_both t)
sha1_blocks Sha512 t = absurd (not_both t)

pub sha1_compressions : (a : HashName) → IsTrue (is_sha1 a) → compression_of_name a ≡ compression sha1_hashing a
sha1_compressions Sha1 t = refl
sha1_compressions Sha224 t = absurd (not_both t)
sha1_compressions Sha256 t = absurd (not_both t)
sha1_compressions Sha384 t = absurd (not_both t)
sha1_compressions Sha512 t = absurd (not_both t)

pub sha1_hashes : (a : HashName) → IsTrue (is_sha1 a) → (m : List ℕ) → (hash_of_name a).digest m ≡ sha1_digest a (hashed sha1_hashing a m)
sha1_hashes Sha1 t m = sha1_is m
sha1_hashes Sha224 t m = absurd (not_both t)
sha1_hashes Sha256 t m = absurd (not_both t)
sha1_hashes Sha384 t m = absurd (not_both t)
sha1_hashes Sha512 t m = absurd (not_both t)
