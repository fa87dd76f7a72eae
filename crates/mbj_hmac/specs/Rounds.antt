-- The rounds of a digest (FIPS 180-4), and of an HMAC (RFC 2104, 2 and 4), which are the compressions of its two hashes, one after the
-- other.
use Rattle.std.specs.Prelude.{Bool, ℕ, ◌+◌, ◌-◌, ◌*◌, ◌/◌, ◌==◌, ◌&&◌, nat_lt, List, [], ◌++◌, length, take, drop, replicate, if◌then◌else◌}
use Rattle.mbj_types.specs.declared.class.HashName.{HashName}
use Rattle.mbj_types.specs.Rounds.{hash_rounds, hmac_rounds, states_rounds}
use Rattle.mbj_types.specs.States.{Compression, hash_from}
use Rattle.mbj_hmac.specs.declared.form.Form.{Form}
use Rattle.mbj_hmac.specs.declared.form.Form.TheVariants as form
use Rattle.mbj_hmac.specs.Forms.{counted, outer_rounds_of}

-- how hashes that share a compression work (FIPS 180-4, 5 and 6): which they are, the bytes of a block, the padding behind a
-- message of this many bytes, the compression of a block into a hash value, and how many words a hash value has; by the hash the
-- initial hash value and the digest that a hash value gives; and of a stored state how many bytes it has, the bytes of a hash value,
-- and the hash value that such bytes hold
pub record Hashing : Type 0 where
  pub serves : HashName → Bool
  pub block_bytes : ℕ
  pub padding : ℕ → List ℕ
  pub compress : List ℕ → List ℕ → List ℕ
  pub words : ℕ
  pub initial : HashName → List ℕ
  pub digest : HashName → List ℕ → List ℕ
  pub state_bytes : ℕ
  pub stored : List ℕ → List ℕ
  pub loaded : List ℕ → List ℕ

-- one of these hashes
abbrev pub compression : Hashing → HashName → Compression
compression h a = record {
  block_bytes = h.block_bytes;
  initial = h.initial a;
  compress = h.compress;
  padding = h.padding;
  digest = h.digest a;
  state_bytes = h.state_bytes;
  stored = h.stored;
  loaded = h.loaded;
}

-- a digest or an HMAC on its way: the packet, in which the message is `len` bytes from `off` on; the rounds that are left; the hash
-- value; the hash; and which of them it is. An HMAC has the hash value of the inner hash, once that is done, and the hash value from
-- which the outer hash starts. Under a key it has the key xored with the inner and with the outer pad; there are no bytes for these two
-- in a digest and from states
pub record HmacState : Type 0 where
  pub packet : List ℕ
  pub rest : ℕ
  pub chain : List ℕ
  pub inner : List ℕ
  pub start : List ℕ
  pub hash : HashName
  pub form : Form
  pub front : List ℕ
  pub back : List ℕ
  pub off : ℕ
  pub len : ℕ

abbrev pub rest_of : HmacState → ℕ
rest_of e = e.rest

abbrev pub message : HmacState → List ℕ
message e = take e.len (drop e.off e.packet)

-- the rounds of the outer hash
abbrev pub outer_rounds : HmacState → ℕ
outer_rounds e = outer_rounds_of e.form

-- the round of the outer hash's first block is next
abbrev pub is_turn : HmacState → Bool
is_turn e = nat_lt 0 (outer_rounds e) && e.rest == outer_rounds e

module _ (h : Hashing) where
  -- a message and its padding
  abbrev pub padded : List ℕ → List ℕ
  padded m = m ++ h.padding (length m)

  -- a text of either hash and its padding
  abbrev pub padded_in : Form → List ℕ → List ℕ
  padded_in f m = m ++ h.padding (counted f h.block_bytes (length m))

  -- block j of a text
  abbrev pub block_at : List ℕ → ℕ → List ℕ
  block_at p j = take h.block_bytes (drop (j * h.block_bytes) p)

  -- the hash value after the first n blocks of a text
  abbrev pub chained : HashName → List ℕ → ℕ → List ℕ
  chained a p n = hash_from h.compress h.block_bytes (h.initial a) p n

  -- the hash value of a message
  abbrev pub hashed : HashName → List ℕ → List ℕ
  hashed a m = chained a (padded m) (length (padded m) / h.block_bytes)

  -- what the inner and the outer hash read
  abbrev pub inner_text : HmacState → List ℕ
  inner_text e = padded_in e.form (e.front ++ message e)

  abbrev pub outer_text : HmacState → List ℕ
  outer_text e = padded_in e.form (e.back ++ h.digest e.hash e.inner)

  -- how many blocks the inner hash reads
  abbrev pub inner_blocks : HmacState → ℕ
  inner_blocks e = length (inner_text e) / h.block_bytes

  -- the block of the round that is r rounds before the end: the last ones are those of the outer hash
  abbrev pub block_before : HmacState → ℕ → List ℕ
  block_before e r =
      if nat_lt (outer_rounds e) r then block_at (inner_text e) (inner_blocks e + outer_rounds e - r)
      else block_at (outer_text e) (outer_rounds e - r)

  -- before the first round of the outer hash the hash value moves into `inner`, and the outer hash starts
  abbrev pub turned : HmacState → HmacState
  turned e = if is_turn e then record e { chain = e.start; inner = e.chain } else e

  -- one block further
  abbrev pub compressed_once : HmacState → HmacState
  compressed_once e = record e { rest = e.rest - 1; chain = h.compress e.chain (block_before e e.rest) }

  -- the next round
  abbrev pub round : HmacState → HmacState
  round e = compressed_once (turned e)

  -- an HMAC of which nothing is done, by the key xored with the inner and with the outer pad
  abbrev pub started : HashName → List ℕ → List ℕ → List ℕ → ℕ → ℕ → HmacState
  started a front back packet off len = record {
    packet = packet;
    rest = hmac_rounds h.block_bytes len;
    chain = h.initial a;
    inner = replicate h.words 0;
    start = h.initial a;
    hash = a;
    form = form.Keyed;
    front = front;
    back = back;
    off = off;
    len = len;
  }

  -- a digest of which nothing is done
  abbrev pub started_plain : HashName → List ℕ → ℕ → ℕ → HmacState
  started_plain a packet off len = record {
    packet = packet;
    rest = hash_rounds h.block_bytes len;
    chain = h.initial a;
    inner = replicate h.words 0;
    start = replicate h.words 0;
    hash = a;
    form = form.Plain;
    front = [];
    back = [];
    off = off;
    len = len;
  }

  -- an HMAC of which nothing is done, from the hash values of an inner and of an outer state
  abbrev pub started_states : HashName → List ℕ → List ℕ → List ℕ → ℕ → ℕ → HmacState
  started_states a inner outer packet off len = record {
    packet = packet;
    rest = states_rounds h.block_bytes len;
    chain = inner;
    inner = replicate h.words 0;
    start = outer;
    hash = a;
    form = form.States;
    front = [];
    back = [];
    off = off;
    len = len;
  }
