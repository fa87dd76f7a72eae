-- The tags of CMAC and GCM jobs.
use Rattle.std.proofs.Common.{◌≡◌, ℕ, ◌+◌, ◌-◌, true, List, take, drop, refl, sym, ap, ◌∙◌, arith}
use Rattle.mbj_types.specs.declared.job.Job.{Job}
use Rattle.mbj_types.specs.declared.class.CmacKey.{CmacKey}
use Rattle.mbj_types.specs.declared.class.CmacKey.TheVariants.{Aes128}
use Rattle.mbj_types.specs.Aes.{aes, is_key_size}
use Rattle.mbj_types.specs.Auths.{IsCmac, class_of, cmac_key_bytes}
use Rattle.mbj_types.specs.declared.class.AuthClass.{AuthClass}
use Rattle.mbj_types.specs.declared.class.AuthClass.TheVariants as class
use Rattle.mbj_types.specs.Cmac.{cmac}
use Rattle.mbj_types.specs.Verdict.{has_hash_range, takes_auth_key}
use Rattle.mbj_types.specs.Result.{hash_range, gcm_of, mac_by, tag_over}
use Rattle.std.proofs.lemmas.Bool.{eqb-true}
use Rattle.mbj_aes.specs.Bytes.{IsKeySize}
use Rattle.mbj_stage.specs.Inside.Texts.{gcm_by}

-- ---- CMAC

-- a CMAC is over the hash range
pub cmac_has_range : (a : AuthClass) → IsCmac a → has_hash_range a ≡ true
cmac_has_range class.Null h = absurd h
cmac_has_range (class.Hmac hash) h = absurd h
cmac_has_range (class.Cmac key) h = refl
cmac_has_range class.Gcm h = absurd h
cmac_has_range class.Ccm h = absurd h
cmac_has_range (class.Plain hash) h = absurd h
cmac_has_range class.Gmac h = absurd h
cmac_has_range (class.States hash) h = absurd h

-- its key is one of AES
sized : (k : CmacKey) → IsKeySize (cmac_key_bytes k)
sized Aes128 = refl
sized _ = refl

pub cmac_key : (a : AuthClass) (n : ℕ) → IsCmac a → takes_auth_key a n ≡ true → IsKeySize n
cmac_key class.Null n h k = absurd h
cmac_key (class.Hmac hash) n h k = absurd h
cmac_key (class.Cmac key) n h k = ap is_key_size (eqb-true n (cmac_key_bytes key) k) ∙ sized key
cmac_key class.Gcm n h k = absurd h
cmac_key class.Ccm n h k = absurd h
cmac_key (class.Plain hash) n h k = absurd h
cmac_key class.Gmac n h k = absurd h
cmac_key (class.States hash) n h k = absurd h

-- the value of a CMAC
pub cmac_is_mac : (a : AuthClass) (j : Job) (p : List ℕ) → IsCmac a → cmac (aes j.auth_key) (hash_range j p) ≡ mac_by a j p
cmac_is_mac class.Null j p h = absurd h
cmac_is_mac (class.Hmac hash) j p h = absurd h
cmac_is_mac (class.Cmac key) j p h = refl
cmac_is_mac class.Gcm j p h = absurd h
cmac_is_mac class.Ccm j p h = absurd h
cmac_is_mac (class.Plain hash) j p h = absurd h
cmac_is_mac class.Gmac j p h = absurd h
cmac_is_mac (class.States hash) j p h = absurd h

-- ---- GCM

-- the tag of GCM over the cipher range
pub gcm_is_tag : (j : Job) (p whole : List ℕ) → class_of j.auth ≡ class.Gcm
    → whole ≡ (gcm_by j (take (j.cipher_off + j.cipher_len - j.cipher_off) (drop j.cipher_off p))).1
    → take j.tag_len whole ≡ tag_over j p
unfolding tag_over gcm_of
gcm_is_tag j p whole is e =
    let len : j.cipher_off + j.cipher_len - j.cipher_off ≡ j.cipher_len = omega arith in
    ap (take j.tag_len)
    (e ∙ ap (λ (n : ℕ). (gcm_by j (take n (drop j.cipher_off p))).1) len ∙ sym (ap (λ (x : AuthClass). mac_by x j p) is))
