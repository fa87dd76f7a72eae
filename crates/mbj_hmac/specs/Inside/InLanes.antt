-- Entries in lanes. The lanes have the hash values of their entries: that of the hash that runs, that of an inner hash that is done, and
-- that from which an outer hash starts. Three vectors say how many rounds each has left, with how many left its outer hash starts, and how
-- many bits the block of its inner digest counts.
use Rattle.std.specs.Prelude.{IsTrue, ◌≡◌, ℕ, ◌+◌, ◌-◌, ◌*◌, ◌<◌, ◌≤◌, ◌^◌, ◌==◌, ◌⊎◌, nat_lt, List, [], length, replicate, Option, Some, None, slice_index_or, if◌then◌else◌}
use Rattle.mbj_types.specs.Lanes.{lane_at}
use Rattle.mbj_types.specs.declared.class.HashName.{HashName}
use Rattle.mbj_types.specs.declared.class.HashName.TheVariants.{Sha1}
use Rattle.mbj_hmac.specs.declared.form.Form.TheVariants.{Plain}
use Rattle.mbj_hmac.specs.Forms.{made_rounds_of}
use Rattle.mbj_hmac.specs.Rounds.{Hashing, HmacState, block_before, outer_rounds}

-- an entry that is none
abbrev pub blank : HmacState
blank = record { packet = []; rest = 0; chain = []; inner = []; start = []; hash = Sha1; form = Plain; front = []; back = []; off = 0; len = 0 }

-- as many lanes as any of the hashes has
abbrev pub most_lanes : ℕ
most_lanes = 16

-- the rest of an idle lane, which no entry has
abbrev pub idle : ℕ
idle = 2 ^ 31

-- the rest of a lane after m rounds
abbrev pub lowered : ℕ → ℕ → ℕ
lowered m rest = if rest == idle then idle else rest - m

-- more rounds than any entry has
abbrev pub never : ℕ
never = 2 ^ 32 - 1

-- with how many rounds left an entry's outer hash starts. A digest, which has none, never comes to that
abbrev pub turn_of : HmacState → ℕ
turn_of e = if nat_lt 0 (outer_rounds e) then outer_rounds e else never

-- how many rounds an HMAC has left, by its rest and its turn; 0 for a digest, which has no block of an inner digest
abbrev pub outer_left : ℕ → ℕ → ℕ
outer_left rest turn = if turn == never then 0 else rest

-- how many rounds a lane has before those of its outer hash, or has at all
abbrev pub reach_at : ℕ → ℕ → ℕ
reach_at rest turn = if nat_lt turn rest then rest - turn else rest

abbrev pub reach_of : HmacState → ℕ
reach_of e = reach_at e.rest (outer_rounds e)

-- an entry with the hash values of its lane: the one that goes on, and that of the inner hash
abbrev pub with_chains : List ℕ → List ℕ → HmacState → HmacState
with_chains c n e = record e { chain = c; inner = n }

-- an entry m rounds further, but for its hash value
abbrev pub moved : ℕ → HmacState → HmacState
moved m e = record e { rest = e.rest - m }

-- the entry of a lane, and as it is with the lane's hash values
abbrev pub entry_in : List HmacState → ℕ → HmacState
entry_in es i = slice_index_or es i blank

abbrev pub seen_at : (ℕ → List ℕ) → (ℕ → List ℕ) → List HmacState → ℕ → HmacState
seen_at lane inner es i = with_chains (lane i) (inner i) (entry_in es i)

-- what stands in a slot, which is a lane
abbrev pub slot_at : (ℕ → List ℕ) → (ℕ → List ℕ) → List ℕ → List HmacState → ℕ → Option HmacState
slot_at lane inner rests es i = if lane_at 32 rests i == idle then None else Some (seen_at lane inner es i)

-- what the two vectors have of an entry. In an idle lane it has no round left
abbrev pub IsTied : ℕ → ℕ → HmacState → Type 0
IsTied rest turn e = ((rest ≡ idle) × (e.rest ≡ 0)) ⊎ ((rest < idle) × (rest ≡ e.rest) × (turn ≡ turn_of e))

-- the vectors have the rests of these entries, and a lane without one is idle
pub record AreTied (rests turns : List ℕ) (es : List HmacState) : Type 0 where
  pub tied : (i : ℕ) → i < most_lanes → IsTied (lane_at 32 rests i) (lane_at 32 turns i) (entry_in es i)
  pub past : (i : ℕ) → i < most_lanes → length es ≤ i → lane_at 32 rests i ≡ idle

module _ (h : Hashing) where
  -- the bits of a block and of a digest behind it, which the padding behind both counts
  abbrev pub IsDigestBits : HashName → ℕ → Type 0
  IsDigestBits a bits = (s : List ℕ) → bits ≡ 8 * (h.block_bytes + length (h.digest a s))

  -- an entry whose block of the inner digest counts so many bits. The hash is one of these, and the outer pad is a block
  pub record HasDigest (count : ℕ) (e : HmacState) : Type 0 where
    pub bits : IsDigestBits e.hash count
    pub served : IsTrue (h.serves e.hash)
    pub back : length e.back ≡ h.block_bytes * (outer_rounds e - 1)

  -- a lane has the hash value from which its entry's outer hash starts, and these bits
  abbrev pub IsReady : List ℕ → ℕ → HmacState → Type 0
  IsReady start count e = (start ≡ e.start) × HasDigest count e

  -- so has each busy lane
  abbrev pub AreReady : (ℕ → List ℕ) → List ℕ → List ℕ → List HmacState → Type 0
  AreReady starts bits rests es =
      (i : ℕ) → i < most_lanes → lane_at 32 rests i < idle → IsReady (starts i) (lane_at 32 bits i) (entry_in es i)

  -- the block of an entry that comes after `done` others, or one of zeros if it is made or there is none
  abbrev pub block_in : HmacState → ℕ → List ℕ
  block_in e done =
      if nat_lt (made_rounds_of e.form) (e.rest - done) then block_before h e (e.rest - done) else replicate h.block_bytes 0
