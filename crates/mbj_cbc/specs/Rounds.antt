-- The rounds of CBC encryption (SP 800-38A, 6.2) over a range of a packet: a block each, in place.
use Rattle.std.specs.Prelude.{ℕ, ◌+◌, ◌-◌, ◌*◌, List, ◌++◌, take, drop}
use Rattle.mbj_types.specs.Aes.{encipher}
use Rattle.mbj_types.specs.Blocks.{xor_lists}
use Rattle.mbj_types.specs.Result.{range}
use Rattle.mbj_types.specs.Rounds.{cbc_rounds}

-- an encryption on its way: the packet, in which the text is `len` bytes from `off` on; the rounds that are left; the chaining
-- value; and the schedule of the key
pub record CbcState : Type 0 where
  pub packet : List ℕ
  pub rest : ℕ
  pub chain : List ℕ
  pub key : List ℕ
  pub off : ℕ
  pub len : ℕ

abbrev pub key_of : CbcState → List ℕ
key_of e = e.key

abbrev pub rest_of : CbcState → ℕ
rest_of e = e.rest

abbrev pub chain_of : CbcState → List ℕ
chain_of e = e.chain

-- where the next block of the text begins in the packet
abbrev pub next_block_at : CbcState → ℕ
next_block_at e = e.off + e.len - 16 * e.rest

abbrev pub block_of : CbcState → List ℕ
block_of e = range (next_block_at e) 16 e.packet

-- the next block gave the ciphertext block c, which stands in its place
abbrev pub advanced : CbcState → List ℕ → CbcState
advanced e c = record e {
  packet = take (next_block_at e) e.packet ++ c ++ drop (next_block_at e + 16) e.packet;
  rest = e.rest - 1;
}

-- c is the chaining value
abbrev pub kept : CbcState → List ℕ → CbcState
kept e c = record e { chain = c }

-- the next round: the ciphertext block is the next chaining value
abbrev pub round : CbcState → CbcState
round e =
    let c = encipher e.key (xor_lists (block_of e) e.chain) in
    kept (advanced e c) c

-- an encryption of which nothing is done
abbrev pub started : List ℕ → List ℕ → List ℕ → ℕ → ℕ → CbcState
started key iv packet off len = record {
  packet = packet;
  rest = cbc_rounds len;
  chain = iv;
  key = key;
  off = off;
  len = len;
}
