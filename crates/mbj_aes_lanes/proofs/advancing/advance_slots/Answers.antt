-- Few entries are advanced in the first slots, and go back.
use Rattle.std.proofs.Common.{◌≡◌, ℕ, None, length, get_or, slice_index, ap, ◌∙◌, arith}
use Rattle.std.specs.Option.{option_map}
use Rattle.mbj_lane.specs.Rounds.{after}
use Rattle.mbj_aes_lanes.specs.ChainedEntry.{chained_once}
use Rattle.mbj_aes_lanes.specs.Inside.Slots.{HasRounds}
use Rattle.mbj_aes_lanes.proofs.GatheredSlots.{gathered-each, restored}
use Rattle.mbj_aes_lanes.proofs.SlotFacts.{has-rounds, rounds-of}
use Rattle.mbj_aes_lanes.proofs.advancing.advance_slots.Goals as goal

pub advance-requires-clause-rests : goal.advance-requires-clause-rests
advance-requires-clause-rests g c i x h is =
    let rest = g.E.ChainedEntry.rest_of in
    let m : ℕ = c.args.m in
    let es = c.args.slots.now in
    let origins = c.gather-origins.ensures in
    let size = c.requires.size in
    rounds-of rest m (get_or c.gather-origins.new.slots i None) x
    (rw origins.moved
    (gathered-each (slice_index c.gather-origins.result.from) (HasRounds rest m) None c.gather-origins.result.many es
    (omega (arith, size, origins.most))
    (λ p lt. omega (arith, size, origins.lanes p lt))
    (λ k lt. has-rounds rest m (get_or es k None) (λ y there. c.requires.rests k y (omega (arith, size)) there)) i (omega (arith, size))))
    is

pub returns-then-busy_in-le-FEW_LANES : goal.returns-then-busy_in-le-FEW_LANES
returns-then-busy_in-le-FEW_LANES g c i h =
    let e = g.E.ChainedEntry in
    let es = c.args.slots.now in
    let origins = c.gather-origins.ensures in
    let size = c.requires.size in
    let change = option_map (after (chained_once e.key_of e.block_of e.chain_of e.advanced e.kept) c.args.m) in
    let long : length c.advance.new.slots ≡ length es = omega (arith, c.advance.auto.slots, c.gather-origins.auto.slots) in
    ap (λ l. get_or l i None) c.scatter.ensures
    ∙ restored (slice_index c.gather-origins.result.from) change None c.gather-origins.result.many es c.advance.new.slots
    (omega (arith, size, origins.most))
    (λ p lt. omega (arith, size, origins.lanes p lt)) long
    (λ k lt. c.advance.ensures k (omega (arith, size)) ∙ ap (λ l. change (get_or l k None)) origins.moved) i (omega (arith, size))
