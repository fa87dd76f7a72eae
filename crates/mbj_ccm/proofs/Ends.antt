-- What a MAC comes to by its rounds.
use Rattle.std.proofs.Common.{◌≡◌, ℕ, suc, ◌+◌, ◌-◌, ◌≤◌, List, [], length, get_or, refl, sym, ap, ap₂, ◌∙◌, arith}
use Rattle.mbj_types.specs.Aes.{encipher}
use Rattle.mbj_types.specs.Blocks.{xor_lists, zero_block}
use Rattle.mbj_types.specs.Ccm.{ccm_blocks, ccm_mac}
use Rattle.mbj_types.specs.Result.{range}
use Rattle.mbj_types.specs.Rounds.{ccm_rounds}
use Rattle.mbj_lane.specs.Rounds.{end_of}
use Rattle.mbj_aes_lanes.proofs.ChainedEnds.{chain_end}
use Rattle.mbj_blocks.proofs.Ranges.{length-range}
use Rattle.mbj_ccm.specs.Rounds.{CcmState, chain_of, rest_of, round, started}
use Rattle.mbj_ccm.proofs.Formatted.{length-ccm_blocks}

module _ (key iv aad packet : List ℕ) (off len tag_len : ℕ) (h : off + len ≤ length packet) where
  abbrev state : ℕ → List ℕ → CcmState
  state rest chain = record {
    packet = packet;
    iv = iv;
    aad = aad;
    tag_len = tag_len;
    rest = rest;
    chain = chain;
    key = key;
    off = off;
    len = len;
  }

  abbrev parts : List (List ℕ)
  parts = ccm_blocks iv aad (range off len packet) tag_len

  many : length parts ≡ ccm_rounds (length aad) len
  many = length-ccm_blocks iv aad (range off len packet) tag_len ∙ ap (ccm_rounds (length aad)) (length-range off len packet h)

  -- a round takes the next block
  advanced : (n i : ℕ) (chain : List ℕ) → i + suc n ≡ length parts
      → round (state (suc n) chain) ≡ state n (encipher key (xor_lists (get_or parts i []) chain))
  advanced n i chain at =
      let place : ccm_rounds (length aad) len - suc n ≡ i = omega (arith, many) in
      let fewer : suc n - 1 ≡ n = omega arith in
      ap₂ (λ (m k : ℕ). state m (encipher key (xor_lists (get_or parts k []) chain))) fewer place

  -- at the end the chaining value is the MAC
  pub mac_end : (end_of round rest_of (started key iv aad packet off len tag_len)).chain
      ≡ ccm_mac (encipher key) iv aad (range off len packet) tag_len
  unfolding ccm_mac
  mac_end =
      chain_end round chain_of state (encipher key) parts (λ n c. refl) advanced (ccm_rounds (length aad) len) zero_block (sym many)
