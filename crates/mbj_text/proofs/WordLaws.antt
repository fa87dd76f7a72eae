-- A word is read exactly where it is that of a value.
use Rattle.std.proofs.Common.{◌≡◌, ◌∙◌, ap, sym, refl, ℕ, Bool, true, false, cond, List, [], ◌∷◌, map, Option, Some, None}
use Rattle.std.specs.Prelude.{codes, find, option_map}
use denote.Ref.{Bor}
use Rattle.std.specs.Str.{bytes_eq}
use Rattle.std.proofs.lemmas.Slice.Eq.{bytes_eq-Decides}
use Rattle.mbj_types.specs.declared.job.Cipher.{Cipher}
use Rattle.mbj_types.specs.declared.job.Cipher.TheVariants as cipher
use Rattle.mbj_types.specs.declared.job.Dir.{Dir}
use Rattle.mbj_types.specs.declared.job.Dir.TheVariants.{Enc, Dec}
use Rattle.mbj_types.specs.declared.job.Order.{Order}
use Rattle.mbj_types.specs.declared.job.Order.TheVariants.{CipherHash, HashCipher}
use Rattle.mbj_types.specs.declared.job.Auth.{Auth}
use Rattle.mbj_types.specs.declared.job.Auth.TheVariants as auth
use Rattle.mbj_text.specs.declared.command.Verb.{Verb}
use Rattle.mbj_text.specs.declared.command.Verb.TheVariants.{Post, Claim, Flush, Collect}
use Rattle.mbj_text.specs.Words.{cipher_word, dir_word, order_word, auth_word, verb_word}
use Rattle.mbj_text.specs.Inside.Reading.{lookup, rows_of, ciphers, auths, verbs, cipher_of, dir_of, order_of, auth_of, verb_of}

-- looking up as a search among the rows
pub find_is_lookup : {A : Type 0} (rows : List (Bor (List ℕ) × A)) (t : List ℕ)
    → option_map (λ row. row.1) (find (λ row. bytes_eq row.0.now t) rows) ≡ lookup (map (λ row. (row.0.now, row.1)) rows) t
unfolding lookup
find_is_lookup [] t = refl
find_is_lookup (row ∷ rows) t = elim (bytes_eq row.0.now t) as (λ b. option_map (λ row. row.1) (cond b (Some row) (find (λ row. bytes_eq row.0.now t) rows)) ≡ cond b (Some row.1) (lookup (map (λ row. (row.0.now, row.1)) rows) t)) [
  | true ↦ refl
  | false ↦ find_is_lookup rows t
]

-- what is found among the rows of some values has the word for its text
lookup_finds : {A : Type 0} (word : A → List ℕ) (vs : List A) (t : List ℕ) (v : A) → lookup (rows_of word vs) t ≡ Some v → t ≡ word v
unfolding lookup
lookup_finds word [] t v h = cc
lookup_finds word (w ∷ ws) t v h = go (bytes_eq (word w) t) (bytes_eq-Decides (word w) t).0 h (lookup_finds word ws t v)
  where
    go : (x : Bool) → (x ≡ true → word w ≡ t) → cond x (Some w) (lookup (rows_of word ws) t) ≡ Some v
        → (lookup (rows_of word ws) t ≡ Some v → t ≡ word v) → t ≡ word v
    go true p q more = let same : w ≡ v = cc in sym (p refl) ∙ ap word same
    go false p q more = more q

-- ---- a word is read exactly where it is spelled

-- what is read is spelled
pub cipher_read : (t : List ℕ) (c : Cipher) → cipher_of t ≡ Some c → t ≡ cipher_word c
cipher_read t c h = lookup_finds cipher_word ciphers t c h

-- what is spelled is read
pub cipher_back : (t : List ℕ) (c : Cipher) → t ≡ cipher_word c → cipher_of t ≡ Some c
unfolding lookup
cipher_back t cipher.Null e = ap cipher_of e
cipher_back t cipher.Cbc e = ap cipher_of e
cipher_back t cipher.Ctr e = ap cipher_of e
cipher_back t cipher.Gcm e = ap cipher_of e
cipher_back t cipher.Ccm e = ap cipher_of e

-- what is read is spelled
pub auth_read : (t : List ℕ) (a : Auth) → auth_of t ≡ Some a → t ≡ auth_word a
auth_read t a h = lookup_finds auth_word auths t a h

-- what is spelled is read
pub auth_back : (t : List ℕ) (a : Auth) → t ≡ auth_word a → auth_of t ≡ Some a
unfolding lookup
auth_back t auth.Null e = ap auth_of e
auth_back t auth.HmacSha1 e = ap auth_of e
auth_back t auth.HmacSha224 e = ap auth_of e
auth_back t auth.HmacSha256 e = ap auth_of e
auth_back t auth.HmacSha384 e = ap auth_of e
auth_back t auth.HmacSha512 e = ap auth_of e
auth_back t auth.Cmac128 e = ap auth_of e
auth_back t auth.Cmac256 e = ap auth_of e
auth_back t auth.Gcm e = ap auth_of e
auth_back t auth.Ccm e = ap auth_of e
auth_back t auth.Sha1 e = ap auth_of e
auth_back t auth.Sha224 e = ap auth_of e
auth_back t auth.Sha256 e = ap auth_of e
auth_back t auth.Sha384 e = ap auth_of e
auth_back t auth.Sha512 e = ap auth_of e
auth_back t auth.Gmac e = ap auth_of e
auth_back t auth.HmacSha1States e = ap auth_of e
auth_back t auth.HmacSha224States e = ap auth_of e
auth_back t auth.HmacSha256States e = ap auth_of e
auth_back t auth.HmacSha384States e = ap auth_of e
auth_back t auth.HmacSha512States e = ap auth_of e

-- what is read is spelled
pub dir_read : (t : List ℕ) (d : Dir) → dir_of t ≡ Some d → t ≡ dir_word d
dir_read t d h = lookup_finds dir_word (Enc ∷ Dec ∷ []) t d h

-- what is spelled is read
pub dir_back : (t : List ℕ) (d : Dir) → t ≡ dir_word d → dir_of t ≡ Some d
unfolding lookup
dir_back t Enc e = ap dir_of e
dir_back t Dec e = ap dir_of e

-- what is read is spelled
pub order_read : (t : List ℕ) (o : Order) → order_of t ≡ Some o → t ≡ order_word o
order_read t o h = lookup_finds order_word (CipherHash ∷ HashCipher ∷ []) t o h

-- what is spelled is read
pub order_back : (t : List ℕ) (o : Order) → t ≡ order_word o → order_of t ≡ Some o
unfolding lookup
order_back t CipherHash e = ap order_of e
order_back t HashCipher e = ap order_of e

-- what is read is spelled
pub verb_read : (t : List ℕ) (v : Verb) → verb_of t ≡ Some v → t ≡ verb_word v
verb_read t v h = lookup_finds verb_word verbs t v h

-- what is spelled is read
pub verb_back : (t : List ℕ) (v : Verb) → t ≡ verb_word v → verb_of t ≡ Some v
unfolding lookup
verb_back t Post e = ap verb_of e
verb_back t Claim e = ap verb_of e
verb_back t Flush e = ap verb_of e
verb_back t Collect e = ap verb_of e
