-- The rounds before the next one advance each entry, but for its chaining value, which stands beside it.
use Rattle.std.proofs.Common.{◌≡◌, ℕ, ◌<◌, ◌≤◌}
use Rattle.mbj_types.specs.declared.kind.TheConstants.{AES_LANES}
use Rattle.mbj_aes_lanes.proofs.Chains.{IsLed}
use Rattle.mbj_aes_lanes.proofs.slot_rounds.advance_by.Given as goal

abbrev pub invariant-passes : goal.invariant-passes
invariant-passes g l =
    let e = g.E.ChainedEntry in
    let at = g.S.Slot.in_lane in record {
      advanced : (i : ℕ) → i < g.C.BlocksCipher.lanes_of l.cipher
          → IsLed e.key_of e.block_of e.chain_of e.advanced e.kept l.done (g.C.BlocksCipher.chain_in l.chains i) (at l.initial.slots i) (at l.slots i);
      left : (i : ℕ) → g.C.BlocksCipher.lanes_of l.cipher ≤ i → i < AES_LANES → at l.slots i ≡ at l.initial.slots i;
    }
