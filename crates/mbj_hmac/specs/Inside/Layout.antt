-- How an entry lays out the blocks that don't stand whole in the packet: the inner pad, the end of the message with its padding, and
-- the outer pad. A digest and an HMAC from states have the end of the message alone, at the same place. The block of the inner digest
-- stands nowhere.
use Rattle.std.specs.Prelude.{IsTrue, Bool, false, ◌≡◌, ℕ, ◌+◌, ◌-◌, ◌*◌, ◌/◌, ◌%◌, ◌≤◌, ◌<◌, ◌^◌, nat_lt, List, [], ◌∷◌, ◌++◌, ◌⊎◌, length, take, drop, replicate, if◌then◌else◌}
use Rattle.std.specs.Int.{w64, to_be_bytes}
use Rattle.mbj_types.specs.declared.class.HashName.{HashName}
use Rattle.mbj_hmac.specs.declared.form.Form.{Form}
use Rattle.mbj_hmac.specs.declared.places.Places.{Places}
use Rattle.mbj_hmac.specs.Forms.{has_pads, made_rounds_of, outer_rounds_of, rounds_in}
use Rattle.mbj_hmac.specs.Rounds.{Hashing, HmacState, inner_text}

module _ (b : ℕ) where
  -- the whole blocks of b bytes in a message of n bytes
  abbrev pub whole_blocks : ℕ → ℕ
  whole_blocks n = n / b

  -- the blocks behind them, which the message's end and its padding fill
  unfoldable pub tail_blocks : ℕ → ℕ
  tail_blocks n = (n + b / 8) / b + 1 - n / b

  -- the zero bytes of the padding, up to the last 8 bytes of the block
  unfoldable pub fill : ℕ → ℕ
  fill n = b * tail_blocks n - n % b - 9

  -- the padding of a message of n bytes
  abbrev pub padding_of : ℕ → List ℕ
  padding_of n = 0x80 ∷ replicate (fill n) 0 ++ to_be_bytes w64 (n * 8)

-- up to which rest an entry's blocks are made, up to which, above that, they stand behind its first one, and up to which, above that,
-- they are the message's whole ones
pub record IsPlaced (b : ℕ) (form : Form) (len : ℕ) (p : Places) : Type 0 where
  pub made : p.made ≡ made_rounds_of form
  pub behind : p.behind ≡ tail_blocks b len + outer_rounds_of form
  pub high : p.high ≡ p.behind + whole_blocks b len
  pub whole : p.whole ≡ whole_blocks b len

-- the block with this rest stands in the packet
abbrev pub is_in_packet : Places → ℕ → Bool
is_in_packet p rest = if nat_lt p.high rest then false else nat_lt p.behind rest

-- where it begins, for blocks of b bytes and a message from `off` on. One that is made stands nowhere
abbrev pub place_at : ℕ → Places → ℕ → ℕ → ℕ
place_at b p rest off =
    if nat_lt p.high rest then 0
    else if nat_lt p.behind rest then off + b * (p.high - rest)
    else b + b * (p.behind - rest)

-- what the layout takes for granted of a hash: its blocks have 64 or 128 bytes, its padding is that of FIPS 180-4, behind its digest a
-- block has room for padding, and a state is stored whole and with nothing lost
pub record IsStandard (h : Hashing) : Type 0 where
  pub size : (h.block_bytes ≡ 64) ⊎ (h.block_bytes ≡ 128)
  pub pads : (n : ℕ) → n < 2 ^ 33 → h.padding n ≡ padding_of h.block_bytes n
  pub room : (a : HashName) (s : List ℕ) → length (h.digest a s) + 1 + h.block_bytes / 8 ≤ h.block_bytes
  pub whole : (s : List ℕ) → length (h.stored s) ≡ h.state_bytes
  pub kept : (s block : List ℕ) → h.loaded (h.stored (h.compress s block)) ≡ h.compress s block

module _ (h : Hashing) where
  -- an entry as it is seen
  abbrev pub seen : List ℕ → ℕ → List ℕ → List ℕ → List ℕ → HashName → Form → List ℕ → ℕ → ℕ → HmacState
  seen packet rest chain inner start hash form ends off len = record {
    packet = packet;
    rest = rest;
    chain = chain;
    inner = inner;
    start = start;
    hash = hash;
    form = form;
    front = if has_pads form then take h.block_bytes ends else [];
    back = if has_pads form then take h.block_bytes (drop (h.block_bytes * (tail_blocks h.block_bytes len + 1)) ends) else [];
    off = off;
    len = len;
  }

  -- the end of a message behind its whole blocks, and the padding; this many bytes are hashed before the message
  abbrev pub message_end : ℕ → List ℕ → ℕ → ℕ → List ℕ
  message_end before packet off len =
      let whole = h.block_bytes * whole_blocks h.block_bytes len in
      take (len - whole) (drop (off + whole) packet) ++ h.padding (before + len)

  -- the block that holds the digest of a hash value, with its padding behind a block
  abbrev pub digest_block : HashName → List ℕ → List ℕ
  digest_block a s = h.digest a s ++ h.padding (h.block_bytes + length (h.digest a s))

  -- the ends of a new HMAC: the inner pad, the message's end and its padding, and the outer pad
  abbrev pub first_ends : List ℕ → List ℕ → List ℕ → ℕ → ℕ → List ℕ
  first_ends front back packet off len = (front ++ message_end h.block_bytes packet off len) ++ back

  -- the blocks of the message behind its whole ones stand in the entry
  abbrev pub IsLaid : List ℕ → HmacState → Type 0
  IsLaid ends e = take (h.block_bytes * tail_blocks h.block_bytes e.len) (drop h.block_bytes ends)
      ≡ drop (length e.front + h.block_bytes * whole_blocks h.block_bytes e.len) (inner_text h e)

  -- the range lies in the packet, the rounds are no more than there were, the blocks stand, and the hash is one of these
  abbrev pub IsSound : List ℕ → HmacState → Type 0
  IsSound ends e = (e.off + e.len ≤ length e.packet) × (e.rest ≤ rounds_in e.form h.block_bytes e.len) × (e.len < 2 ^ 32)
      × IsLaid ends e × (length ends ≡ 4 * h.block_bytes) × IsTrue (h.serves e.hash)

  -- as long as a round is left; the hash is one of these behind the last too, and there are four blocks
  abbrev pub IsKept : List ℕ → HmacState → Type 0
  IsKept ends e = (0 < e.rest → IsSound ends e) × (e.len < 2 ^ 32) × IsTrue (h.serves e.hash) × (length ends ≡ 4 * h.block_bytes)
