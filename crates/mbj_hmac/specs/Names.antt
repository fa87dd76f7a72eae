-- The hash of an HMAC and of a digest, by its name.
use Rattle.std.specs.Prelude.{Bool, false, ◌||◌, Option, Some, None}
use Rattle.mbj_types.specs.declared.class.AuthClass.{AuthClass}
use Rattle.mbj_types.specs.declared.class.AuthClass.TheVariants as class
use Rattle.mbj_types.specs.declared.class.HashName.{HashName}
use Rattle.mbj_types.specs.declared.job.Auth.{Auth}
use Rattle.mbj_types.specs.Auths.{class_of}
use Rattle.mbj_hmac.specs.Rounds.{Hashing}

-- the other authentications have none
abbrev pub name_in : AuthClass → Option HashName
name_in class.Null = None
name_in (class.Hmac n) = Some n
name_in (class.Cmac k) = None
name_in class.Gcm = None
name_in class.Ccm = None
name_in (class.Plain n) = None
name_in class.Gmac = None
name_in (class.States n) = None

abbrev pub name_of : Auth → Option HashName
name_of a = name_in (class_of a)

-- an authentication is the HMAC of a hash that is served
abbrev pub serves_class : Hashing → AuthClass → Bool
serves_class h class.Null = false
serves_class h (class.Hmac n) = h.serves n
serves_class h (class.Cmac k) = false
serves_class h class.Gcm = false
serves_class h class.Ccm = false
serves_class h (class.Plain n) = false
serves_class h class.Gmac = false
serves_class h (class.States n) = false

abbrev pub serves_auth : Hashing → Auth → Bool
serves_auth h a = serves_class h (class_of a)

-- ---- digests

abbrev pub plain_name_in : AuthClass → Option HashName
plain_name_in class.Null = None
plain_name_in (class.Hmac n) = None
plain_name_in (class.Cmac k) = None
plain_name_in class.Gcm = None
plain_name_in class.Ccm = None
plain_name_in (class.Plain n) = Some n
plain_name_in class.Gmac = None
plain_name_in (class.States n) = None

abbrev pub plain_name_of : Auth → Option HashName
plain_name_of a = plain_name_in (class_of a)

-- an authentication is the digest of a hash that is served
abbrev pub serves_plain_class : Hashing → AuthClass → Bool
serves_plain_class h class.Null = false
serves_plain_class h (class.Hmac n) = false
serves_plain_class h (class.Cmac k) = false
serves_plain_class h class.Gcm = false
serves_plain_class h class.Ccm = false
serves_plain_class h (class.Plain n) = h.serves n
serves_plain_class h class.Gmac = false
serves_plain_class h (class.States n) = false

abbrev pub serves_plain : Hashing → Auth → Bool
serves_plain h a = serves_plain_class h (class_of a)

-- ---- HMACs from states

abbrev pub states_name_in : AuthClass → Option HashName
states_name_in class.Null = None
states_name_in (class.Hmac n) = None
states_name_in (class.Cmac k) = None
states_name_in class.Gcm = None
states_name_in class.Ccm = None
states_name_in (class.Plain n) = None
states_name_in class.Gmac = None
states_name_in (class.States n) = Some n

abbrev pub states_name_of : Auth → Option HashName
states_name_of a = states_name_in (class_of a)

-- an authentication is the HMAC from states of a hash that is served
abbrev pub serves_states_class : Hashing → AuthClass → Bool
serves_states_class h class.Null = false
serves_states_class h (class.Hmac n) = false
serves_states_class h (class.Cmac k) = false
serves_states_class h class.Gcm = false
serves_states_class h class.Ccm = false
serves_states_class h (class.Plain n) = false
serves_states_class h class.Gmac = false
serves_states_class h (class.States n) = h.serves n

abbrev pub serves_states : Hashing → Auth → Bool
serves_states h a = serves_states_class h (class_of a)

-- ---- all

-- an authentication is done in the lanes: the HMAC, the digest, or the HMAC from states of a hash that is served
abbrev pub serves_lanes_class : Hashing → AuthClass → Bool
serves_lanes_class h a = serves_class h a || (serves_plain_class h a || serves_states_class h a)

abbrev pub serves_lanes : Hashing → Auth → Bool
serves_lanes h a = serves_lanes_class h (class_of a)
