-- Which jobs are GCM's and which CCM's: in an accepted job cipher and authentication are both GCM, both CCM, or neither is one of them.
use Rattle.std.proofs.Common.{◌≡◌, Bool, true, false, not, ◌&&◌, ◌||◌, [], ◌∷◌, refl}
use Rattle.mbj_types.specs.declared.job.Cipher.{Cipher}
use Rattle.mbj_types.specs.declared.job.Cipher.TheVariants as cipher
use Rattle.mbj_types.specs.declared.class.AuthClass.{AuthClass}
use Rattle.mbj_types.specs.declared.class.AuthClass.TheVariants as class
use Rattle.mbj_types.specs.Verdict.{is_gcm_auth, is_ccm_auth, goes_with}
use Rattle.mbj_stage.specs.declared.stage.Step.TheVariants as step
use Rattle.mbj_stage.specs.Steps.{cipher_steps}

-- a cipher that makes the tag too
abbrev pub makes_tag : Cipher → Bool
makes_tag cipher.Null = false
makes_tag cipher.Cbc = false
makes_tag cipher.Ctr = false
makes_tag cipher.Gcm = true
makes_tag cipher.Ccm = true

-- an authentication that is such a cipher's tag
abbrev pub is_ciphers : AuthClass → Bool
is_ciphers a = is_gcm_auth a || is_ccm_auth a

-- the one authentication that is GCM
only_gcm : (a : AuthClass) → is_gcm_auth a ≡ true → a ≡ class.Gcm
only_gcm class.Null h = absurd (cc)
only_gcm (class.Hmac hash) h = absurd (cc)
only_gcm (class.Cmac key) h = absurd (cc)
only_gcm class.Gcm h = refl
only_gcm class.Ccm h = absurd (cc)
only_gcm (class.Plain hash) h = absurd (cc)
only_gcm class.Gmac h = absurd (cc)
only_gcm (class.States hash) h = absurd (cc)

-- the one that is CCM
pub ccm_both : (a : AuthClass) → is_ccm_auth a ≡ true → a ≡ class.Ccm
ccm_both class.Null h = absurd (cc)
ccm_both (class.Hmac hash) h = absurd (cc)
ccm_both (class.Cmac key) h = absurd (cc)
ccm_both class.Gcm h = absurd (cc)
ccm_both class.Ccm h = refl
ccm_both (class.Plain hash) h = absurd (cc)
ccm_both class.Gmac h = absurd (cc)
ccm_both (class.States hash) h = absurd (cc)

not-true : (b : Bool) → not b ≡ true → b ≡ false
not-true true h = absurd (cc)
not-true false h = refl

left-true : (a b : Bool) → a && b ≡ true → a ≡ true
left-true true b h = refl
left-true false b h = absurd (cc)

-- how cipher and authentication of an accepted job go together
pub data Pair (c : Cipher) (a : AuthClass) : Type 0 where
  both_gcm : c ≡ cipher.Gcm → a ≡ class.Gcm → Pair c a
  both_ccm : c ≡ cipher.Ccm → a ≡ class.Ccm → Pair c a
  neither : makes_tag c ≡ false → is_ciphers a ≡ false → Pair c a

pub pair_of : (c : Cipher) (a : AuthClass) → goes_with c a ≡ true → Pair c a
pair_of cipher.Null a h = neither refl (not-true (is_ciphers a) h)
pair_of cipher.Cbc a h = neither refl (not-true (is_ciphers a) (left-true (not (is_ciphers a)) _ h))
pair_of cipher.Ctr a h = neither refl (not-true (is_ciphers a) (left-true (not (is_ciphers a)) _ h))
pair_of cipher.Gcm a h = both_gcm refl (only_gcm a h)
pair_of cipher.Ccm a h = both_ccm refl (ccm_both a h)

-- the one cipher with the step of GCM
pub gcm_cipher : (c : Cipher) → cipher_steps c ≡ step.Gcm ∷ [] → c ≡ cipher.Gcm
gcm_cipher cipher.Null h = absurd (cc)
gcm_cipher cipher.Cbc h = absurd (cc)
gcm_cipher cipher.Ctr h = absurd (cc)
gcm_cipher cipher.Gcm h = refl
gcm_cipher cipher.Ccm h = absurd (cc)

-- if the cipher is GCM, so is the authentication
pub gcm_both : (c : Cipher) (a : AuthClass) → goes_with c a ≡ true → c ≡ cipher.Gcm → a ≡ class.Gcm
gcm_both cipher.Null a h e = absurd (cc)
gcm_both cipher.Cbc a h e = absurd (cc)
gcm_both cipher.Ctr a h e = absurd (cc)
gcm_both cipher.Gcm a h e = only_gcm a h
gcm_both cipher.Ccm a h e = absurd (cc)
