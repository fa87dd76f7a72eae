-- The rounds of CCM's MAC (SP 800-38C, 6.1, steps 2 and 3) over a range of a packet: a block of the formatted input each.
use Rattle.std.specs.Prelude.{ℕ, ◌-◌, List, [], length, slice_index_or}
use Rattle.mbj_types.specs.Aes.{encipher}
use Rattle.mbj_types.specs.Blocks.{xor_lists, zero_block}
use Rattle.mbj_types.specs.Ccm.{ccm_blocks}
use Rattle.mbj_types.specs.Result.{range}
use Rattle.mbj_types.specs.Rounds.{ccm_rounds}

-- a MAC on its way: the packet, in which the plaintext is `len` bytes from `off` on; the nonce, the additional data and the length of
-- the tag; the rounds that are left; the chaining value; and the schedule of the key
pub record CcmState : Type 0 where
  pub packet : List ℕ
  pub iv : List ℕ
  pub aad : List ℕ
  pub tag_len : ℕ
  pub rest : ℕ
  pub chain : List ℕ
  pub key : List ℕ
  pub off : ℕ
  pub len : ℕ

abbrev pub key_of : CcmState → List ℕ
key_of e = e.key

abbrev pub rest_of : CcmState → ℕ
rest_of e = e.rest

abbrev pub chain_of : CcmState → List ℕ
chain_of e = e.chain

-- the blocks of the formatted input
abbrev pub blocks_of : CcmState → List (List ℕ)
blocks_of e = ccm_blocks e.iv e.aad (range e.off e.len e.packet) e.tag_len

-- the next one
abbrev pub block_of : CcmState → List ℕ
block_of e = slice_index_or (blocks_of e) (ccm_rounds (length e.aad) e.len - e.rest) []

-- the next block gave a chaining value
abbrev pub advanced : CcmState → List ℕ → CcmState
advanced e c = record e { rest = e.rest - 1 }

-- c is the chaining value
abbrev pub kept : CcmState → List ℕ → CcmState
kept e c = record e { chain = c }

-- the next round
abbrev pub round : CcmState → CcmState
round e =
    let c = encipher e.key (xor_lists (block_of e) e.chain) in
    kept (advanced e c) c

-- a MAC of which nothing is done
abbrev pub started : List ℕ → List ℕ → List ℕ → List ℕ → ℕ → ℕ → ℕ → CcmState
started key iv aad packet off len tag_len = record {
  packet = packet;
  iv = iv;
  aad = aad;
  tag_len = tag_len;
  rest = ccm_rounds (length aad) len;
  chain = zero_block;
  key = key;
  off = off;
  len = len;
}
