-- What holds inside an entry, between calls.
use Rattle.std.specs.Prelude.{◌≡◌, ℕ, ◌+◌, ◌-◌, ◌*◌, ◌^◌, ◌<◌, ◌≤◌, Bool, true, List, length, drop}
use Rattle.mbj_types.specs.Aes.{encipher}
use Rattle.mbj_types.specs.Cmac.{closed_block}
use Rattle.mbj_types.specs.Result.{range}
use Rattle.mbj_types.specs.Rounds.{cmac_rounds}
use Rattle.mbj_cmac.specs.Rounds.{CmacState}

-- the last block of the message, as it is before it is closed
abbrev pub last_part : CmacState → List ℕ
last_part e = drop (16 * (cmac_rounds e.len - 1)) (range e.off e.len e.packet)

-- the range lies in the packet, and where the last block was closed, it is `last`
pub record IsSound (is_closed : Bool) (last : List ℕ) (e : CmacState) : Type 0 where
  pub chain : length e.chain ≡ 16
  pub range : e.off + e.len ≤ length e.packet
  pub small : e.len < 2 ^ 32
  pub rest : e.rest ≤ cmac_rounds e.len
  pub closing : is_closed ≡ true → last ≡ closed_block (encipher e.key) (last_part e)
