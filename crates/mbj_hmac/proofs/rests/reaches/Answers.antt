use Rattle.std.proofs.Common.{◌≡◌, ℕ, ◌+◌, ◌-◌, ◌%◌, ◌^◌, ◌<◌, ltb, length, get_or, w32, sym, ap, ◌∙◌, arith}
use lib.Lanes.{zip2}
use Rattle.std.proofs.lemmas.Simd.{get_or-zip2, length-zip2}
use Rattle.mbj_types.specs.Lanes.{lane_at, lane_at-lt}
use Rattle.mbj_hmac.proofs.Vectors.{chosen, lane_is, reach_is}
use Rattle.mbj_hmac.proofs.rests.reaches.Goals as goal

less : ℕ → ℕ → ℕ
less a b = (a + (2 ^ 32 - b)) % 2 ^ 32

pub returns : goal.returns
unfolding less
returns c i h =
    let rests = c.args.rests in
    let turns = c.args.turns in
    let size : length rests ≡ 16 = c.fits-rests.0 in
    let size' : length turns ≡ 16 = c.fits-turns.0 in
    let r : ℕ = get_or rests i 0 in
    let t : ℕ = get_or turns i 0 in
    let rest : lane_at 32 rests i ≡ r = lane_is w32 rests 16 i size c.fits-rests.1 h in
    let turn : lane_at 32 turns i ≡ t = lane_is w32 turns 16 i size' c.fits-turns.1 h in
    let lower : get_or (zip2 less rests turns) i 0 ≡ less r t = get_or-zip2 less rests turns i 0 0 0 (omega (arith, size)) (omega (arith, size')) in
    let long : length (zip2 less rests turns) ≡ 16 = length-zip2 less rests turns (size ∙ sym size') ∙ size in
    let fits : r < 2 ^ 32 = omega (arith, rest, lane_at-lt 32 rests i) in
    let fits' : t < 2 ^ 32 = omega (arith, turn, lane_at-lt 32 turns i) in
    ap (λ x. x % 2 ^ 32) (chosen w32 ltb turns rests (zip2 less rests turns) rests 16 i size' size long size h)
    ∙ rw (lower, rest, turn) (reach_is r t fits fits')
