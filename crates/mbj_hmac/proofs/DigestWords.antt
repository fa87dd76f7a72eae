-- The words of the block that holds a digest, with the padding behind a block and the digest.
use Rattle.std.proofs.Common.{◌≡◌, ℕ, ◌^◌, ◌<◌, List, [], ◌∷◌, cond, eqb, refl, ap, ap₂, ◌∙◌}
use Rattle.std.proofs.lemmas.Nat.{from_be_bytes-to_be_bytes_4, from_be_bytes-to_be_bytes_8}
use Rattle.std.specs.Prelude.{IsTrue}
use Rattle.sha1.specs.Sha1 as Sha1
use Rattle.sha2.specs.Sha256 as Sha256
use Rattle.sha2.specs.Sha512 as Sha512
use Rattle.mbj_types.specs.declared.class.HashName.{HashName}
use Rattle.mbj_types.specs.declared.class.HashName.TheVariants as hash
use Rattle.mbj_sha_lanes.specs.Words.{words32, words64}
use Rattle.mbj_hmac.specs.Hashings.{is_sha1, is_sha256, is_sha512, sha1_hashing, sha256_hashing, sha512_hashing}
use Rattle.mbj_hmac.specs.Inside.InLanes.{IsDigestBits}
use Rattle.mbj_hmac.specs.Inside.Layout.{digest_block}
use Rattle.mbj_hmac.specs.Laws.Tests.{not_both}

-- a word before others
before : (x y : ℕ) (xs ys : List ℕ) → x ≡ y → xs ≡ ys → x ∷ xs ≡ y ∷ ys
before x y xs ys e f = ap₂ (λ z zs. z ∷ zs) e f

-- the bit 1 behind the digest, as a word
abbrev one32 : ℕ
one32 = 0x80000000

abbrev one64 : ℕ
one64 = 0x8000000000000000

module _ (a b c d e : ℕ) (fa : a < 2 ^ 32) (fb : b < 2 ^ 32) (fc : c < 2 ^ 32) (fd : d < 2 ^ 32) (fe : e < 2 ^ 32) where
  sha1_words : words32 (digest_block sha1_hashing hash.Sha1 (a ∷ b ∷ c ∷ d ∷ e ∷ []))
      ≡ a ∷ b ∷ c ∷ d ∷ e ∷ one32 ∷ 0 ∷ 0 ∷ 0 ∷ 0 ∷ 0 ∷ 0 ∷ 0 ∷ 0 ∷ 0 ∷ 672 ∷ []
  unfolding Sha1.digest_bytes
  sha1_words =
      before _ _ _ _ (from_be_bytes-to_be_bytes_4 a fa) (before _ _ _ _ (from_be_bytes-to_be_bytes_4 b fb) (before _ _ _ _ (from_be_bytes-to_be_bytes_4 c fc)
      (before _ _ _ _ (from_be_bytes-to_be_bytes_4 d fd) (before _ _ _ _ (from_be_bytes-to_be_bytes_4 e fe) refl))))

  pub sha1_block : (h : HashName) (bits one zero : ℕ) → IsTrue (is_sha1 h) → IsDigestBits sha1_hashing h bits → one ≡ one32 → zero ≡ 0
      → words32 (digest_block sha1_hashing h (a ∷ b ∷ c ∷ d ∷ e ∷ []))
      ≡ a ∷ b ∷ c ∷ d ∷ e ∷ one ∷ zero ∷ zero ∷ zero ∷ zero ∷ zero ∷ zero ∷ zero ∷ zero ∷ zero ∷ bits ∷ []
  unfolding Sha1.digest_bytes
  sha1_block hash.Sha1 bits one zero served is e1 e0 = let n : bits ≡ 672 = is [] in rw (n, e1, e0) sha1_words
  sha1_block hash.Sha224 bits one zero served is e1 e0 = absurd (not_both served)
  sha1_block hash.Sha256 bits one zero served is e1 e0 = absurd (not_both served)
  sha1_block hash.Sha384 bits one zero served is e1 e0 = absurd (not_both served)
  sha1_block hash.Sha512 bits one zero served is e1 e0 = absurd (not_both served)

module _ (a b c d e f g h : ℕ) (fa : a < 2 ^ 32) (fb : b < 2 ^ 32) (fc : c < 2 ^ 32) (fd : d < 2 ^ 32) (fe : e < 2 ^ 32) (ff : f < 2 ^ 32) (fg : g < 2 ^ 32) (fh : h < 2 ^ 32) where
  sha224_words : words32 (digest_block sha256_hashing hash.Sha224 (a ∷ b ∷ c ∷ d ∷ e ∷ f ∷ g ∷ h ∷ []))
      ≡ a ∷ b ∷ c ∷ d ∷ e ∷ f ∷ g ∷ one32 ∷ 0 ∷ 0 ∷ 0 ∷ 0 ∷ 0 ∷ 0 ∷ 0 ∷ 736 ∷ []
  unfolding Sha256.digest_bytes
  sha224_words =
      before _ _ _ _ (from_be_bytes-to_be_bytes_4 a fa) (before _ _ _ _ (from_be_bytes-to_be_bytes_4 b fb) (before _ _ _ _ (from_be_bytes-to_be_bytes_4 c fc)
      (before _ _ _ _ (from_be_bytes-to_be_bytes_4 d fd) (before _ _ _ _ (from_be_bytes-to_be_bytes_4 e fe) (before _ _ _ _ (from_be_bytes-to_be_bytes_4 f ff)
      (before _ _ _ _ (from_be_bytes-to_be_bytes_4 g fg) refl))))))

  sha256_words : words32 (digest_block sha256_hashing hash.Sha256 (a ∷ b ∷ c ∷ d ∷ e ∷ f ∷ g ∷ h ∷ []))
      ≡ a ∷ b ∷ c ∷ d ∷ e ∷ f ∷ g ∷ h ∷ one32 ∷ 0 ∷ 0 ∷ 0 ∷ 0 ∷ 0 ∷ 0 ∷ 768 ∷ []
  unfolding Sha256.digest_bytes
  sha256_words =
      before _ _ _ _ (from_be_bytes-to_be_bytes_4 a fa) (before _ _ _ _ (from_be_bytes-to_be_bytes_4 b fb) (before _ _ _ _ (from_be_bytes-to_be_bytes_4 c fc)
      (before _ _ _ _ (from_be_bytes-to_be_bytes_4 d fd) (before _ _ _ _ (from_be_bytes-to_be_bytes_4 e fe) (before _ _ _ _ (from_be_bytes-to_be_bytes_4 f ff)
      (before _ _ _ _ (from_be_bytes-to_be_bytes_4 g fg) (before _ _ _ _ (from_be_bytes-to_be_bytes_4 h fh) refl)))))))

  pub sha256_block : (n : HashName) (bits w7 w8 zero : ℕ) → IsTrue (is_sha256 n) → IsDigestBits sha256_hashing n bits
      → w7 ≡ cond (eqb bits 768) h one32 → w8 ≡ cond (eqb bits 768) one32 0 → zero ≡ 0
      → words32 (digest_block sha256_hashing n (a ∷ b ∷ c ∷ d ∷ e ∷ f ∷ g ∷ h ∷ []))
      ≡ a ∷ b ∷ c ∷ d ∷ e ∷ f ∷ g ∷ w7 ∷ w8 ∷ zero ∷ zero ∷ zero ∷ zero ∷ zero ∷ zero ∷ bits ∷ []
  unfolding Sha256.digest_bytes
  sha256_block hash.Sha1 bits w7 w8 zero served is e7 e8 e0 = absurd (not_both served)
  sha256_block hash.Sha224 bits w7 w8 zero served is e7 e8 e0 =
      let n : bits ≡ 736 = is [] in
      let e7' : w7 ≡ one32 = e7 ∙ ap (λ x. cond (eqb x 768) h one32) n in
      let e8' : w8 ≡ 0 = e8 ∙ ap (λ x. cond (eqb x 768) one32 0) n in
      rw (e7', e8', e0, n) sha224_words
  sha256_block hash.Sha256 bits w7 w8 zero served is e7 e8 e0 =
      let n : bits ≡ 768 = is [] in
      let e7' : w7 ≡ h = e7 ∙ ap (λ x. cond (eqb x 768) h one32) n in
      let e8' : w8 ≡ one32 = e8 ∙ ap (λ x. cond (eqb x 768) one32 0) n in
      rw (e7', e8', e0, n) sha256_words
  sha256_block hash.Sha384 bits w7 w8 zero served is e7 e8 e0 = absurd (not_both served)
  sha256_block hash.Sha512 bits w7 w8 zero served is e7 e8 e0 = absurd (not_both served)

module _ (a b c d e f g h : ℕ) (fa : a < 2 ^ 64) (fb : b < 2 ^ 64) (fc : c < 2 ^ 64) (fd : d < 2 ^ 64) (fe : e < 2 ^ 64) (ff : f < 2 ^ 64) (fg : g < 2 ^ 64) (fh : h < 2 ^ 64) where
  sha384_words : words64 (digest_block sha512_hashing hash.Sha384 (a ∷ b ∷ c ∷ d ∷ e ∷ f ∷ g ∷ h ∷ []))
      ≡ a ∷ b ∷ c ∷ d ∷ e ∷ f ∷ one64 ∷ 0 ∷ 0 ∷ 0 ∷ 0 ∷ 0 ∷ 0 ∷ 0 ∷ 0 ∷ 1408 ∷ []
  unfolding Sha512.digest_bytes
  sha384_words =
      before _ _ _ _ (from_be_bytes-to_be_bytes_8 a fa) (before _ _ _ _ (from_be_bytes-to_be_bytes_8 b fb) (before _ _ _ _ (from_be_bytes-to_be_bytes_8 c fc)
      (before _ _ _ _ (from_be_bytes-to_be_bytes_8 d fd) (before _ _ _ _ (from_be_bytes-to_be_bytes_8 e fe) (before _ _ _ _ (from_be_bytes-to_be_bytes_8 f ff)
      refl)))))

  sha512_words : words64 (digest_block sha512_hashing hash.Sha512 (a ∷ b ∷ c ∷ d ∷ e ∷ f ∷ g ∷ h ∷ []))
      ≡ a ∷ b ∷ c ∷ d ∷ e ∷ f ∷ g ∷ h ∷ one64 ∷ 0 ∷ 0 ∷ 0 ∷ 0 ∷ 0 ∷ 0 ∷ 1536 ∷ []
  unfolding Sha512.digest_bytes
  sha512_words =
      before _ _ _ _ (from_be_bytes-to_be_bytes_8 a fa) (before _ _ _ _ (from_be_bytes-to_be_bytes_8 b fb) (before _ _ _ _ (from_be_bytes-to_be_bytes_8 c fc)
      (before _ _ _ _ (from_be_bytes-to_be_bytes_8 d fd) (before _ _ _ _ (from_be_bytes-to_be_bytes_8 e fe) (before _ _ _ _ (from_be_bytes-to_be_bytes_8 f ff)
      (before _ _ _ _ (from_be_bytes-to_be_bytes_8 g fg) (before _ _ _ _ (from_be_bytes-to_be_bytes_8 h fh) refl)))))))

  pub sha512_block : (n : HashName) (bits w6 w7 w8 zero : ℕ) → IsTrue (is_sha512 n) → IsDigestBits sha512_hashing n bits
      → w6 ≡ cond (eqb bits 1536) g one64 → w7 ≡ cond (eqb bits 1536) h 0 → w8 ≡ cond (eqb bits 1536) one64 0 → zero ≡ 0
      → words64 (digest_block sha512_hashing n (a ∷ b ∷ c ∷ d ∷ e ∷ f ∷ g ∷ h ∷ []))
      ≡ a ∷ b ∷ c ∷ d ∷ e ∷ f ∷ w6 ∷ w7 ∷ w8 ∷ zero ∷ zero ∷ zero ∷ zero ∷ zero ∷ zero ∷ bits ∷ []
  unfolding Sha512.digest_bytes
  sha512_block hash.Sha1 bits w6 w7 w8 zero served is e6 e7 e8 e0 = absurd (not_both served)
  sha512_block hash.Sha224 bits w6 w7 w8 zero served is e6 e7 e8 e0 = absurd (not_both served)
  sha512_block hash.Sha256 bits w6 w7 w8 zero served is e6 e7 e8 e0 = absurd (not_both served)
  sha512_block hash.Sha384 bits w6 w7 w8 zero served is e6 e7 e8 e0 =
      let n : bits ≡ 1408 = is [] in
      let e6' : w6 ≡ one64 = e6 ∙ ap (λ x. cond (eqb x 1536) g one64) n in
      let e7' : w7 ≡ 0 = e7 ∙ ap (λ x. cond (eqb x 1536) h 0) n in
      let e8' : w8 ≡ 0 = e8 ∙ ap (λ x. cond (eqb x 1536) one64 0) n in
      rw (e6', e7', e8', e0, n) sha384_words
  sha512_block hash.Sha512 bits w6 w7 w8 zero served is e6 e7 e8 e0 =
      let n : bits ≡ 1536 = is [] in
      let e6' : w6 ≡ g = e6 ∙ ap (λ x. cond (eqb x 1536) g one64) n in
      let e7' : w7 ≡ h = e7 ∙ ap (λ x. cond (eqb x 1536) h 0) n in
      let e8' : w8 ≡ one64 = e8 ∙ ap (λ x. cond (eqb x 1536) one64 0) n in
      rw (e6', e7', e8', e0, n) sha512_words
