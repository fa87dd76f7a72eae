-- What holds inside an entry, between calls.
use Rattle.std.specs.Prelude.{◌≡◌, ◌+◌, ◌≤◌, length}
use Rattle.mbj_types.specs.declared.limits.TheConstants.{MAX_PACKET_BYTES}
use Rattle.mbj_types.specs.declared.limits.ccm.TheConstants.{MAX_CCM_AAD_BYTES}
use Rattle.mbj_types.specs.Rounds.{ccm_rounds}
use Rattle.mbj_ccm.specs.Rounds.{CcmState}

-- nonce, additional data, packet and tag are as long as CCM takes them, and the range lies in the packet
pub record IsSound (e : CcmState) : Type 0 where
  pub chain : length e.chain ≡ 16
  pub nonce : length e.iv ≤ 13
  pub aad : length e.aad ≤ MAX_CCM_AAD_BYTES
  pub packet : length e.packet ≤ MAX_PACKET_BYTES
  pub range : e.off + e.len ≤ length e.packet
  pub tag_least : 4 ≤ e.tag_len
  pub tag_most : e.tag_len ≤ 16
  pub rest : e.rest ≤ ccm_rounds (length e.aad) e.len
