use Rattle.std.proofs.Common.{◌≡◌, ℕ, List, replicate, get_or, w32, ltb, arith}
use Rattle.std.proofs.lemmas.Bool.{lt-ltb, eqb-true, not-false}
use Rattle.std.proofs.lemmas.Simd.{length-replicate, get_or-replicate}
use Rattle.mbj_hmac.specs.Inside.InLanes.{idle}
use Rattle.mbj_hmac.proofs.Vectors.{lane_is, none_told}
use Rattle.mbj_hmac.proofs.rests.has_busy_lane.Goals as goal

pub returns : goal.returns
returns c none i h busy =
    let rests : List ℕ = c.args.rests in
    let each : List ℕ = replicate 16 idle in
    let here : get_or each i 0 ≡ idle = get_or-replicate 16 i idle 0 h in
    none_told ltb rests each 16 i (omega arith) c.fits-rests.0 (length-replicate 16 idle) h (eqb-true _ 0 (not-false _ none))
    (lt-ltb (get_or rests i 0) (get_or each i 0) (omega (arith, here, lane_is w32 rests 16 i c.fits-rests.0 c.fits-rests.1 h, busy)))
