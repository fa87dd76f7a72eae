-- The entries before the next lane were given their chaining values.
use Rattle.std.proofs.Common.{[], get_or}
use Rattle.std.specs.Option.{option_map}
use Rattle.mbj_aes_lanes.specs.Inside.Busy.{AreGiven}
use Rattle.mbj_aes_lanes.proofs.slot_rounds.advance_each.Given as goal

abbrev pub invariant-lanes : goal.invariant-lanes
invariant-lanes g l =
    let at = g.S.Slot.in_lane in
    AreGiven (λ i. option_map (λ e. g.E.ChainedEntry.advanced e (get_or l.chains i []))) l.i (at l.initial.slots) (at l.slots)
