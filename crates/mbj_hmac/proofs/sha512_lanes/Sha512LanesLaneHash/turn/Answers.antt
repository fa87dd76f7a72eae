use Rattle.std.proofs.Common.{cond, eqb, ap₂, ◌∙◌}
use Rattle.mbj_types.specs.Lanes.{lane_at, lane_of}
use Rattle.mbj_hmac.proofs.sha512_lanes.Sha512LanesLaneHash.turn.Goals as goal

pub returns-clause-inner : goal.returns-clause-inner
returns-clause-inner c i lt =
    let lane = lane_of (lane_at 64) in
    c.choose.ensures.chosen i lt
    ∙ ap₂ (λ x y. cond (eqb x y) (lane c.args.states.now i) (lane c.args.inner.now i)) (c.of_numbers-lefts.ensures i lt) (c.of_numbers-turns.ensures i lt)

pub returns-clause-states : goal.returns-clause-states
returns-clause-states c i lt =
    let lane = lane_of (lane_at 64) in
    c.choose-2.ensures.chosen i lt
    ∙ ap₂ (λ x y. cond (eqb x y) (lane c.args.starts.now i) (lane c.args.states.now i)) (c.of_numbers-lefts.ensures i lt) (c.of_numbers-turns.ensures i lt)
