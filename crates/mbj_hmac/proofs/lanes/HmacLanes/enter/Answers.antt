use Rattle.std.proofs.Common.{◌≡◌, ◌<◌, ◌∙◌, cond, refl, ap, arith}
use Rattle.std.proofs.lemmas.Bool.{eq-eqb}
use Rattle.mbj_types.specs.Lanes.{lane_at}
use Rattle.mbj_hmac.proofs.lanes.HmacLanes.enter.Goals as goal

pub returns-clause-ready : goal.returns-clause-ready
returns-clause-ready g c =
    let i = c.args.i in
    let few : i < 16 = omega (arith, c.requires, g.met.H.LaneHash.narrow) in
    let n = c.digest_bits.result in
    let bits : lane_at 32 c.with_word32-self-3.result i ≡ n =
    c.with_word32-self-3.ensures i few ∙ ap (λ b. cond b n (lane_at 32 c.args.self.now.rests.bits i)) (eq-eqb i i refl) in
    (c.set_lane-3.ensures.here ∙ c.outer_start.ensures, rw bits c.digest_bits.ensures)
