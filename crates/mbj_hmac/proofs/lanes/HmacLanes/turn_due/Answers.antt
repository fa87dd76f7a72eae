use Rattle.std.proofs.Common.{◌<◌, refl, arith}
use Rattle.std.proofs.lemmas.Bool.{ne_eqb}
use Rattle.mbj_types.specs.Lanes.{lane_at}
use Rattle.mbj_hmac.specs.Inside.InLanes.{most_lanes}
use Rattle.mbj_hmac.proofs.lanes.HmacLanes.turn_due.Goals as goal

pub returns-else-has_equal-clause-states : goal.returns-else-has_equal-clause-states
returns-else-has_equal-clause-states g c i lt =
    let rests = c.args.self.now.rests in
    let few : i < most_lanes = omega (arith, g.met.H.LaneHash.narrow) in
    rw (ne_eqb (lane_at 32 rests.left i) (lane_at 32 rests.turns i) (c.has_equal.ensures c.if-has_equal.false i few)) refl

pub returns-else-has_equal-clause-inner : goal.returns-else-has_equal-clause-inner
returns-else-has_equal-clause-inner g c i lt =
    let rests = c.args.self.now.rests in
    let few : i < most_lanes = omega (arith, g.met.H.LaneHash.narrow) in
    rw (ne_eqb (lane_at 32 rests.left i) (lane_at 32 rests.turns i) (c.has_equal.ensures c.if-has_equal.false i few)) refl
