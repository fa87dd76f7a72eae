-- The rounds of CMAC (SP 800-38B, 6.2) over a range of a packet: a block of the message each.
use Rattle.std.specs.Prelude.{ℕ, ◌-◌, List, [], slice_index_or}
use Rattle.mbj_types.specs.Aes.{encipher}
use Rattle.mbj_types.specs.Blocks.{xor_lists, zero_block}
use Rattle.mbj_types.specs.Cmac.{closed, message_blocks}
use Rattle.mbj_types.specs.Result.{range}
use Rattle.mbj_types.specs.Rounds.{cmac_rounds}

-- a CMAC on its way: the packet, in which the message is `len` bytes from `off` on; the rounds that are left; the chaining
-- value; and the schedule of the key
pub record CmacState : Type 0 where
  pub packet : List ℕ
  pub rest : ℕ
  pub chain : List ℕ
  pub key : List ℕ
  pub off : ℕ
  pub len : ℕ

abbrev pub key_of : CmacState → List ℕ
key_of e = e.key

abbrev pub rest_of : CmacState → ℕ
rest_of e = e.rest

abbrev pub chain_of : CmacState → List ℕ
chain_of e = e.chain

-- the blocks of the message, the last one closed
abbrev pub blocks_of : CmacState → List (List ℕ)
blocks_of e = closed (encipher e.key) (message_blocks (range e.off e.len e.packet))

-- the next one
abbrev pub block_of : CmacState → List ℕ
block_of e = slice_index_or (blocks_of e) (cmac_rounds e.len - e.rest) []

-- the next block gave a chaining value
abbrev pub advanced : CmacState → List ℕ → CmacState
advanced e c = record e { rest = e.rest - 1 }

-- c is the chaining value
abbrev pub kept : CmacState → List ℕ → CmacState
kept e c = record e { chain = c }

-- the next round
abbrev pub round : CmacState → CmacState
round e =
    let c = encipher e.key (xor_lists (block_of e) e.chain) in
    kept (advanced e c) c

-- a CMAC of which nothing is done
abbrev pub started : List ℕ → List ℕ → ℕ → ℕ → CmacState
started key packet off len = record {
  packet = packet;
  rest = cmac_rounds len;
  chain = zero_block;
  key = key;
  off = off;
  len = len;
}
