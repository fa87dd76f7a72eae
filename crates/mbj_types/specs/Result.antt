-- The result of a job, by the standards.
use Rattle.std.specs.Prelude.{ℕ, ◌+◌, Bool, true, false, List, [], ◌++◌, take, drop}
use Rattle.std.specs.Option.{option_map_or}
use Rattle.mbj_types.specs.Aes.{aes, aes_inverse}
use Rattle.mbj_types.specs.Modes.{cbc_text, uncbc_text, ctr_text}
use Rattle.mbj_types.specs.Cmac.{cmac}
use Rattle.mbj_types.specs.Gcm.{gcm, gmac}
use Rattle.mbj_types.specs.Ccm.{ccm}
use Rattle.mbj_types.specs.Hmac.{hmac}
use Rattle.mbj_types.specs.States.{hmac_from_states}
use Rattle.mbj_types.specs.Auths.{class_of, compression_of_name, hash_of_name}
use Rattle.mbj_types.specs.declared.class.AuthClass.{AuthClass}
use Rattle.mbj_types.specs.declared.class.AuthClass.TheVariants as class
use Rattle.mbj_types.specs.Verdict.{verdict}
use Rattle.mbj_types.specs.declared.job.Job.{Job}
use Rattle.mbj_types.specs.declared.job.Cipher.{Cipher}
use Rattle.mbj_types.specs.declared.job.Cipher.TheVariants as cipher
use Rattle.mbj_types.specs.declared.job.Dir.{Dir}
use Rattle.mbj_types.specs.declared.job.Dir.TheVariants.{Enc, Dec}
use Rattle.mbj_types.specs.declared.job.Order.{Order}
use Rattle.mbj_types.specs.declared.job.Order.TheVariants.{CipherHash, HashCipher}
use Rattle.mbj_types.specs.declared.done.Done.{Done}
use Rattle.mbj_types.specs.declared.done.Status.TheVariants as status
use Rattle.mbj_types.specs.declared.reason.Reason.{Reason}

-- len bytes of the packet p, from off on
abbrev pub range : ℕ → ℕ → List ℕ → List ℕ
range off len p = take len (drop off p)

abbrev pub cipher_range : Job → List ℕ → List ℕ
cipher_range j p = range j.cipher_off j.cipher_len p

abbrev pub hash_range : Job → List ℕ → List ℕ
hash_range j p = range j.hash_off j.hash_len p

-- the packet p with another text in its cipher range
abbrev pub with_cipher_range : Job → List ℕ → List ℕ → List ℕ
with_cipher_range j text p = take j.cipher_off p ++ text ++ drop (j.cipher_off + j.cipher_len) p

-- whether the direction is that of encryption
abbrev pub is_enc : Dir → Bool
is_enc Enc = true
is_enc Dec = false

-- GCM on the cipher range of the packet p: the other text, and the whole tag
unfoldable pub gcm_of : Job → List ℕ → List ℕ × List ℕ
gcm_of j p = gcm (aes j.key) j.iv j.aad (cipher_range j p) (is_enc j.dir)

-- CCM on the cipher range of the packet p: the other text, and the whole tag
unfoldable pub ccm_of : Job → List ℕ → List ℕ × List ℕ
ccm_of j p = ccm (aes j.key) j.iv j.aad (cipher_range j p) j.tag_len (is_enc j.dir)

-- what the cipher makes of the packet p: its cipher range is replaced
abbrev pub ciphered_by : Cipher → Dir → Job → List ℕ → List ℕ
ciphered_by cipher.Null d j p = p
ciphered_by cipher.Cbc Enc j p = with_cipher_range j (cbc_text (aes j.key) j.iv (cipher_range j p)) p
ciphered_by cipher.Cbc Dec j p = with_cipher_range j (uncbc_text (aes_inverse j.key) j.iv (cipher_range j p)) p
ciphered_by cipher.Ctr d j p = with_cipher_range j (ctr_text (aes j.key) j.iv (cipher_range j p)) p
ciphered_by cipher.Gcm d j p = with_cipher_range j (gcm_of j p).0 p
ciphered_by cipher.Ccm d j p = with_cipher_range j (ccm_of j p).0 p

unfoldable pub ciphered : Job → List ℕ → List ℕ
ciphered j p = ciphered_by j.cipher j.dir j p

-- what the authentication makes of the packet p, in full; GCM and CCM take the text as it was before the cipher
abbrev pub mac_by : AuthClass → Job → List ℕ → List ℕ
mac_by class.Null j p = []
mac_by (class.Hmac h) j p = hmac (hash_of_name h) j.auth_key (hash_range j p)
mac_by (class.Cmac k) j p = cmac (aes j.auth_key) (hash_range j p)
mac_by class.Gcm j p = (gcm_of j p).1
mac_by class.Ccm j p = (ccm_of j p).1
mac_by (class.Plain h) j p = (hash_of_name h).digest (hash_range j p)
mac_by class.Gmac j p = gmac (aes j.auth_key) j.iv (hash_range j p)
mac_by (class.States h) j p = hmac_from_states (compression_of_name h) j.auth_key (hash_range j p)

-- the tag over the packet p: the leftmost bytes
unfoldable pub tag_over : Job → List ℕ → List ℕ
tag_over j p = take j.tag_len (mac_by (class_of j.auth) j p)

-- the packet that the tag is over: in the order of cipher and hash the ciphered one, else the job's own
abbrev pub authenticated_in : Order → Job → List ℕ
authenticated_in CipherHash j = ciphered j j.packet
authenticated_in HashCipher j = j.packet

-- GCM and CCM have no order: each is given the job's packet. In both directions GCM's tag is over the ciphertext, and CCM's over the
-- plaintext
abbrev pub authenticated_by : AuthClass → Job → List ℕ
authenticated_by class.Null j = authenticated_in j.order j
authenticated_by (class.Hmac h) j = authenticated_in j.order j
authenticated_by (class.Cmac k) j = authenticated_in j.order j
authenticated_by class.Gcm j = j.packet
authenticated_by class.Ccm j = j.packet
authenticated_by (class.Plain h) j = authenticated_in j.order j
authenticated_by class.Gmac j = authenticated_in j.order j
authenticated_by (class.States h) j = authenticated_in j.order j

-- the result of a job that is accepted
abbrev pub accepted : Job → Done
accepted j = record {
  status = status.Ok;
  packet = ciphered j j.packet;
  tag = tag_over j (authenticated_by (class_of j.auth) j);
}

-- the result of a job that is refused: its packet as it is, and no tag
abbrev pub refused : Job → Reason → Done
refused j reason = record { status = status.InvalidArgs reason; packet = j.packet; tag = [] }

unfoldable pub result_of : Job → Done
result_of j = option_map_or (refused j) (verdict j) (accepted j)
