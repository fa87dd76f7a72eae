-- What an entry is of which nothing is done, by its authentication, and what it is at its end.
use Rattle.std.specs.Prelude.{◌≡◌, ℕ, List, [], take, drop}
use Rattle.mbj_types.specs.declared.class.AuthClass.{AuthClass}
use Rattle.mbj_types.specs.declared.class.AuthClass.TheVariants as class
use Rattle.mbj_types.specs.declared.class.HashName.{HashName}
use Rattle.mbj_types.specs.Auths.{compression_of_name, hash_of_name}
use Rattle.mbj_types.specs.Hmac.{block_key, hmac, ipad, opad, padded_key}
use Rattle.mbj_types.specs.Rounds.{auth_rounds}
use Rattle.mbj_types.specs.States.{hmac_from_states}
use Rattle.mbj_lane.specs.Rounds.{end_of}
use Rattle.mbj_hmac.specs.Rounds.{Hashing, HmacState, rest_of, round, started, started_plain, started_states}
use Rattle.mbj_hmac.specs.Inside.InLanes.{blank}

-- an HMAC, and an HMAC from the two states that stand one behind the other
module _ (h : Hashing) (n : HashName) (key packet : List ℕ) (off len : ℕ) where
  abbrev pub begun_keyed : HmacState
  begun_keyed =
      started h n (padded_key ipad (block_key (hash_of_name n) key)) (padded_key opad (block_key (hash_of_name n) key)) packet off len

  abbrev pub begun_states : HmacState
  begun_states =
      let c = compression_of_name n in
      started_states h n (c.loaded (take c.state_bytes key)) (c.loaded (drop c.state_bytes key)) packet off len

-- the entry of an authentication. Others than these three have none
abbrev pub begun : Hashing → AuthClass → List ℕ → List ℕ → ℕ → ℕ → HmacState
begun h class.Null key packet off len = blank
begun h (class.Hmac n) key packet off len = begun_keyed h n key packet off len
begun h (class.Cmac k) key packet off len = blank
begun h class.Gcm key packet off len = blank
begun h class.Ccm key packet off len = blank
begun h (class.Plain n) key packet off len = started_plain h n packet off len
begun h class.Gmac key packet off len = blank
begun h (class.States n) key packet off len = begun_states h n key packet off len

-- the whole value of an authentication over a message
abbrev pub value_of : AuthClass → List ℕ → List ℕ → List ℕ
value_of class.Null key m = []
value_of (class.Hmac n) key m = hmac (hash_of_name n) key m
value_of (class.Cmac k) key m = []
value_of class.Gcm key m = []
value_of class.Ccm key m = []
value_of (class.Plain n) key m = (hash_of_name n).digest m
value_of class.Gmac key m = []
value_of (class.States n) key m = hmac_from_states (compression_of_name n) key m

-- an entry that has all its rounds before it, and ends with the packet and this value
pub record Begins (h : Hashing) (c : AuthClass) (key packet : List ℕ) (off len : ℕ) (e : HmacState) : Type 0 where
  pub rest : e.rest ≡ auth_rounds c h.block_bytes len
  pub packet_is : (end_of (round h) rest_of e).packet ≡ packet
  pub value : (let end : HmacState = end_of (round h) rest_of e in h.digest end.hash end.chain) ≡ value_of c key (take len (drop off packet))
