-- What the authentications are: whatever depends on a job's authentication goes by the cases of its class.
use Rattle.std.specs.Prelude.{ℕ, ◌*◌, ◌==◌, ◌&&◌, nat_le, nat_lt, Bool, true, false, Option, Some, None, IsSome}
use Rattle.mbj_types.specs.Hmac.{Hash, sha1_hash, sha224_hash, sha256_hash, sha384_hash, sha512_hash}
use Rattle.mbj_types.specs.States.{Compression, sha1_compression, sha224_compression, sha256_compression, sha384_compression, sha512_compression}
use Rattle.mbj_types.specs.declared.class.AuthClass.{AuthClass}
use Rattle.mbj_types.specs.declared.class.AuthClass.TheVariants as class
use Rattle.mbj_types.specs.declared.class.CmacKey.{CmacKey}
use Rattle.mbj_types.specs.declared.class.CmacKey.TheVariants.{Aes128, Aes256}
use Rattle.mbj_types.specs.declared.class.HashName.{HashName}
use Rattle.mbj_types.specs.declared.class.HashName.TheVariants.{Sha1, Sha224, Sha256, Sha384, Sha512}
use Rattle.mbj_types.specs.declared.job.Auth.{Auth}
use Rattle.mbj_types.specs.declared.job.Auth.TheVariants as auth
use Rattle.mbj_types.specs.declared.kind.Kind.{Kind}
use Rattle.mbj_types.specs.declared.kind.Kind.TheVariants as kind

abbrev pub class_of : Auth → AuthClass
class_of auth.Null = class.Null
class_of auth.HmacSha1 = class.Hmac Sha1
class_of auth.HmacSha224 = class.Hmac Sha224
class_of auth.HmacSha256 = class.Hmac Sha256
class_of auth.HmacSha384 = class.Hmac Sha384
class_of auth.HmacSha512 = class.Hmac Sha512
class_of auth.Cmac128 = class.Cmac Aes128
class_of auth.Cmac256 = class.Cmac Aes256
class_of auth.Gcm = class.Gcm
class_of auth.Ccm = class.Ccm
class_of auth.Sha1 = class.Plain Sha1
class_of auth.Sha224 = class.Plain Sha224
class_of auth.Sha256 = class.Plain Sha256
class_of auth.Sha384 = class.Plain Sha384
class_of auth.Sha512 = class.Plain Sha512
class_of auth.Gmac = class.Gmac
class_of auth.HmacSha1States = class.States Sha1
class_of auth.HmacSha224States = class.States Sha224
class_of auth.HmacSha256States = class.States Sha256
class_of auth.HmacSha384States = class.States Sha384
class_of auth.HmacSha512States = class.States Sha512

-- ---- hashes

abbrev pub hash_of_name : HashName → Hash
hash_of_name Sha1 = sha1_hash
hash_of_name Sha224 = sha224_hash
hash_of_name Sha256 = sha256_hash
hash_of_name Sha384 = sha384_hash
hash_of_name Sha512 = sha512_hash

abbrev pub compression_of_name : HashName → Compression
compression_of_name Sha1 = sha1_compression
compression_of_name Sha224 = sha224_compression
compression_of_name Sha256 = sha256_compression
compression_of_name Sha384 = sha384_compression
compression_of_name Sha512 = sha512_compression

-- stored states of n bytes: the inner one and the outer one
abbrev pub takes_states : HashName → ℕ → Bool
takes_states h n = n == 2 * (compression_of_name h).state_bytes

-- a tag of n bytes that is cut from a digest
abbrev pub takes_digest_tag : HashName → ℕ → Bool
takes_digest_tag h n = nat_lt 0 n && nat_le n (hash_of_name h).digest_bytes

-- the kind of lanes in which a hash is computed
abbrev pub hash_kind : HashName → Kind
hash_kind Sha1 = kind.HmacSha1
hash_kind Sha224 = kind.HmacSha256
hash_kind Sha256 = kind.HmacSha256
hash_kind Sha384 = kind.HmacSha512
hash_kind Sha512 = kind.HmacSha512

-- the hash of an HMAC; the other authentications have none
abbrev pub hash_in : AuthClass → Option Hash
hash_in class.Null = None
hash_in (class.Hmac h) = Some (hash_of_name h)
hash_in (class.Cmac k) = None
hash_in class.Gcm = None
hash_in class.Ccm = None
hash_in (class.Plain h) = None
hash_in class.Gmac = None
hash_in (class.States h) = None

abbrev pub hash_of : Auth → Option Hash
hash_of a = hash_in (class_of a)

abbrev pub IsHmac : Auth → Type 0
IsHmac a = IsSome (hash_of a)

-- the hash of which an authentication is the digest; the others have none
abbrev pub plain_hash_in : AuthClass → Option Hash
plain_hash_in class.Null = None
plain_hash_in (class.Hmac h) = None
plain_hash_in (class.Cmac k) = None
plain_hash_in class.Gcm = None
plain_hash_in class.Ccm = None
plain_hash_in (class.Plain h) = Some (hash_of_name h)
plain_hash_in class.Gmac = None
plain_hash_in (class.States h) = None

abbrev pub plain_hash_of : Auth → Option Hash
plain_hash_of a = plain_hash_in (class_of a)

abbrev pub is_plain : AuthClass → Bool
is_plain class.Null = false
is_plain (class.Hmac h) = false
is_plain (class.Cmac k) = false
is_plain class.Gcm = false
is_plain class.Ccm = false
is_plain (class.Plain h) = true
is_plain class.Gmac = false
is_plain (class.States h) = false

-- the hash of an HMAC from states, as it goes on by blocks; the others have none
abbrev pub states_hash_in : AuthClass → Option Compression
states_hash_in class.Null = None
states_hash_in (class.Hmac h) = None
states_hash_in (class.Cmac k) = None
states_hash_in class.Gcm = None
states_hash_in class.Ccm = None
states_hash_in (class.Plain h) = None
states_hash_in class.Gmac = None
states_hash_in (class.States h) = Some (compression_of_name h)

abbrev pub states_hash_of : Auth → Option Compression
states_hash_of a = states_hash_in (class_of a)

abbrev pub is_from_states : AuthClass → Bool
is_from_states class.Null = false
is_from_states (class.Hmac h) = false
is_from_states (class.Cmac k) = false
is_from_states class.Gcm = false
is_from_states class.Ccm = false
is_from_states (class.Plain h) = false
is_from_states class.Gmac = false
is_from_states (class.States h) = true

-- ---- keys of CMAC

abbrev pub IsCmac : AuthClass → Type 0
IsCmac class.Null = ⊥
IsCmac (class.Hmac h) = ⊥
IsCmac (class.Cmac k) = Unit {0}
IsCmac class.Gcm = ⊥
IsCmac class.Ccm = ⊥
IsCmac (class.Plain h) = ⊥
IsCmac class.Gmac = ⊥
IsCmac (class.States h) = ⊥

abbrev pub cmac_key_bytes : CmacKey → ℕ
cmac_key_bytes Aes128 = 16
cmac_key_bytes Aes256 = 32

-- the kind of lanes in which CMAC is computed under a key
abbrev pub cmac_kind : CmacKey → Kind
cmac_kind Aes128 = kind.Cmac128
cmac_kind Aes256 = kind.Cmac256
