use Rattle.std.proofs.Common.{◌≡◌, ◌<◌, ◌∙◌, length, ap, ap₂, arith}
use Rattle.mbj_types.specs.Lanes.{lane_at}
use Rattle.mbj_lane.specs.Rounds.{after}
use Rattle.mbj_hmac.specs.Rounds.{round}
use Rattle.mbj_hmac.specs.Inside.InLanes.{blank, entry_in, most_lanes, with_chains}
use Rattle.mbj_hmac.proofs.InLanes.{all_changed, has_entry, tied_rest}
use Rattle.mbj_hmac.proofs.kernel.HmacKernelKernel.run.Goals as goal

pub run-requires-clause-rests : goal.run-requires-clause-rests
run-requires-clause-rests g c i h busy =
    let rests = c.of-lanes.result.rests in
    let es = c.args.entries.now in
    let tied = c.of-lanes.ensures.tied in
    let inside : i < length es = has_entry rests.left rests.turns es tied i h busy in
    let rest = tied_rest (lane_at 32 rests.left i) (lane_at 32 rests.turns i) (entry_in es i) (tied.tied i h) busy in
    omega (arith, rest, c.requires.rests i blank inside)

pub returns : goal.returns
returns g c =
    let es = c.args.entries.now in
    let advanced = after (round g.H.LaneHash.hashing) c.args.m in
    let size : length c.give_back.new.entries ≡ length es = omega (arith, c.give_back.auto.entries, c.run.auto.entries) in
    all_changed advanced es c.give_back.new.entries size (λ i lt.
    let few : i < most_lanes = omega (arith, c.requires.lanes, g.met.H.LaneHash.narrow) in
    c.give_back.ensures i (omega (arith, c.run.auto.entries)) ∙ c.run.ensures.advanced i few (c.of-lanes.ensures.rests i lt)
    ∙ ap advanced (ap₂ (λ s n. with_chains s n (entry_in es i)) (c.of-lanes.ensures.chains i lt) (c.of-lanes.ensures.inners i lt)))
