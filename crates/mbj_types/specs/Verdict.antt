-- The argument table: the reason for which a job is refused, or none. Sums are whole numbers and never wrap.
use Rattle.std.specs.Prelude.{ℕ, ◌+◌, ◌==◌, ◌&&◌, ◌||◌, Bool, true, false, not, nat_lt, nat_le, List, [], ◌∷◌, length, Option, Some, None, if◌then◌else◌}
use Rattle.mbj_types.specs.Aes.{is_key_size}
use Rattle.mbj_types.specs.Auths.{class_of, cmac_key_bytes, takes_digest_tag, takes_states}
use Rattle.mbj_types.specs.Ccm as Ccm
use Rattle.mbj_types.specs.Cmac as Cmac
use Rattle.mbj_types.specs.Gcm as Gcm
use Rattle.mbj_types.specs.Hmac as Hmac
use Rattle.mbj_types.specs.Modes.{cbc_takes_iv, cbc_takes_text, ctr_takes_iv, ctr_takes_text}
use Rattle.mbj_types.specs.declared.class.AuthClass.{AuthClass}
use Rattle.mbj_types.specs.declared.class.AuthClass.TheVariants as class
use Rattle.mbj_types.specs.declared.job.Job.{Job}
use Rattle.mbj_types.specs.declared.job.Cipher.{Cipher}
use Rattle.mbj_types.specs.declared.job.Cipher.TheVariants as cipher
use Rattle.mbj_types.specs.declared.reason.Reason.{Reason}
use Rattle.mbj_types.specs.declared.reason.Reason.TheVariants.{PacketLong, GcmPair, CipherKey, IvLength, CipherRange, CipherLength, AuthKey, HashRange, AadLong, TagLength}
use Rattle.mbj_types.specs.declared.limits.TheConstants.{MAX_PACKET_BYTES}

-- ---- what a cipher takes

abbrev pub is_null_cipher : Cipher → Bool
is_null_cipher cipher.Null = true
is_null_cipher cipher.Cbc = false
is_null_cipher cipher.Ctr = false
is_null_cipher cipher.Gcm = false
is_null_cipher cipher.Ccm = false

-- keys of n bytes
abbrev pub takes_key : Cipher → ℕ → Bool
takes_key c n = is_null_cipher c || is_key_size n

-- initialization vectors of n bytes
abbrev pub takes_iv : Cipher → ℕ → Bool
takes_iv cipher.Null n = true
takes_iv cipher.Cbc n = cbc_takes_iv n
takes_iv cipher.Ctr n = ctr_takes_iv n
takes_iv cipher.Gcm n = Gcm.takes_iv n
takes_iv cipher.Ccm n = Ccm.takes_nonce n

-- ranges of n bytes
abbrev pub takes_range : Cipher → ℕ → Bool
takes_range cipher.Null n = true
takes_range cipher.Cbc n = cbc_takes_text n
takes_range cipher.Ctr n = ctr_takes_text n
takes_range cipher.Gcm n = true
takes_range cipher.Ccm n = true

-- additional data of n bytes
abbrev pub takes_aad : Cipher → ℕ → Bool
takes_aad cipher.Null n = true
takes_aad cipher.Cbc n = true
takes_aad cipher.Ctr n = true
takes_aad cipher.Gcm n = Gcm.takes_aad n
takes_aad cipher.Ccm n = Ccm.takes_aad n

-- ---- what an authentication takes

abbrev pub is_gcm_auth : AuthClass → Bool
is_gcm_auth class.Null = false
is_gcm_auth (class.Hmac h) = false
is_gcm_auth (class.Cmac k) = false
is_gcm_auth class.Gcm = true
is_gcm_auth class.Ccm = false
is_gcm_auth (class.Plain h) = false
is_gcm_auth class.Gmac = false
is_gcm_auth (class.States h) = false

abbrev pub is_ccm_auth : AuthClass → Bool
is_ccm_auth class.Null = false
is_ccm_auth (class.Hmac h) = false
is_ccm_auth (class.Cmac k) = false
is_ccm_auth class.Gcm = false
is_ccm_auth class.Ccm = true
is_ccm_auth (class.Plain h) = false
is_ccm_auth class.Gmac = false
is_ccm_auth (class.States h) = false

abbrev pub is_gmac : AuthClass → Bool
is_gmac class.Null = false
is_gmac (class.Hmac h) = false
is_gmac (class.Cmac k) = false
is_gmac class.Gcm = false
is_gmac class.Ccm = false
is_gmac (class.Plain h) = false
is_gmac class.Gmac = true
is_gmac (class.States h) = false

-- whether it is over the hash range
abbrev pub has_hash_range : AuthClass → Bool
has_hash_range class.Null = false
has_hash_range (class.Hmac h) = true
has_hash_range (class.Cmac k) = true
has_hash_range class.Gcm = false
has_hash_range class.Ccm = false
has_hash_range (class.Plain h) = true
has_hash_range class.Gmac = true
has_hash_range (class.States h) = true

-- keys of n bytes: an HMAC from states has the inner state and the outer state
abbrev pub takes_auth_key : AuthClass → ℕ → Bool
takes_auth_key class.Null n = true
takes_auth_key (class.Hmac h) n = Hmac.takes_key n
takes_auth_key (class.Cmac k) n = n == cmac_key_bytes k
takes_auth_key class.Gcm n = true
takes_auth_key class.Ccm n = true
takes_auth_key (class.Plain h) n = true
takes_auth_key class.Gmac n = is_key_size n
takes_auth_key (class.States h) n = takes_states h n

-- initialization vectors of n bytes: GMAC alone has one
abbrev pub takes_auth_iv : AuthClass → ℕ → Bool
takes_auth_iv class.Null n = true
takes_auth_iv (class.Hmac h) n = true
takes_auth_iv (class.Cmac k) n = true
takes_auth_iv class.Gcm n = true
takes_auth_iv class.Ccm n = true
takes_auth_iv (class.Plain h) n = true
takes_auth_iv class.Gmac n = Gcm.takes_iv n
takes_auth_iv (class.States h) n = true

-- tags of n bytes
abbrev pub takes_tag : AuthClass → ℕ → Bool
takes_tag class.Null n = n == 0
takes_tag (class.Hmac h) n = takes_digest_tag h n
takes_tag (class.Cmac k) n = Cmac.takes_tag n
takes_tag class.Gcm n = Gcm.takes_tag n
takes_tag class.Ccm n = Ccm.takes_tag n
takes_tag (class.Plain h) n = takes_digest_tag h n
takes_tag class.Gmac n = Gcm.takes_tag n
takes_tag (class.States h) n = takes_digest_tag h n

-- ---- the table

-- which authentications go with a cipher: with GCM and with CCM its own alone, with the others any but these two; GMAC goes with
-- no cipher, since it has the job's IV
abbrev pub goes_with : Cipher → AuthClass → Bool
goes_with cipher.Null a = not (is_gcm_auth a || is_ccm_auth a)
goes_with cipher.Cbc a = not (is_gcm_auth a || is_ccm_auth a) && not (is_gmac a)
goes_with cipher.Ctr a = not (is_gcm_auth a || is_ccm_auth a) && not (is_gmac a)
goes_with cipher.Gcm a = is_gcm_auth a
goes_with cipher.Ccm a = is_ccm_auth a

-- the range of length len from off on passes the end of a packet of n bytes
abbrev pub passes_end : ℕ → ℕ → ℕ → Bool
passes_end off len n = nat_lt n (off + len)

-- the rows for a job whose packet has n bytes: whether the row applies, and its reason
abbrev pub rows : Job → ℕ → List (Bool × Reason)
rows j n =
    (nat_lt MAX_PACKET_BYTES n, PacketLong)
    ∷ (not (goes_with j.cipher (class_of j.auth)), GcmPair)
    ∷ (not (takes_key j.cipher (length j.key)), CipherKey)
    ∷ (not (takes_iv j.cipher (length j.iv) && takes_auth_iv (class_of j.auth) (length j.iv)), IvLength)
    ∷ (not (is_null_cipher j.cipher) && passes_end j.cipher_off j.cipher_len n, CipherRange)
    ∷ (not (takes_range j.cipher j.cipher_len), CipherLength)
    ∷ (not (takes_auth_key (class_of j.auth) (length j.auth_key)), AuthKey)
    ∷ (has_hash_range (class_of j.auth) && passes_end j.hash_off j.hash_len n, HashRange)
    ∷ (not (takes_aad j.cipher (length j.aad)), AadLong)
    ∷ (not (takes_tag (class_of j.auth) j.tag_len), TagLength)
    ∷ []

-- the reason of the first row that applies
abbrev pub first_reason : List (Bool × Reason) → Option Reason
first_reason [] = None
first_reason (row ∷ rest) = if row.0 then Some row.1 else first_reason rest

-- the verdict on a job, were its packet n bytes long
abbrev pub verdict_at : Job → ℕ → Option Reason
verdict_at j n = first_reason (rows j n)

abbrev pub verdict : Job → Option Reason
verdict j = verdict_at j (length j.packet)
