-- The least of the slots before the next one, if one of them has an entry.
use Rattle.std.proofs.Common.{◌≡◌, ℕ, ◌^◌, ◌<◌, ◌≤◌, ◌⊎◌, Some, None, get_or}
use Rattle.mbj_aes_lanes.proofs.slots.ChainedSlotKernel.least.Given as goal

abbrev pub invariant-lanes : goal.invariant-lanes
invariant-lanes g l =
    let rest = g.E.ChainedEntry.rest_of in record {
      most : l.least < 2 ^ 32;
      below : (k : ℕ) (e : _) → k < l.i → get_or l.slots k None ≡ Some e → l.least ≤ rest e;
      fits : (k : ℕ) (e : _) → k < l.i → get_or l.slots k None ≡ Some e → rest e < 2 ^ 32;
      met : (l.least ≡ 0xffffffff) ⊎ ((k : ℕ) × (e : _) × (k < l.i) × (get_or l.slots k None ≡ Some e) × (l.least ≡ rest e));
    }
