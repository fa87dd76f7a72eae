use Rattle.std.proofs.Common.{◌≡◌, ℕ, ◌+◌, ◌-◌, ◌%◌, ◌^◌, eqb, length, get_or, replicate, w32, ap, ◌∙◌, arith}
use lib.Lanes.{zip2}
use Rattle.std.proofs.lemmas.Simd.{get_or-replicate, get_or-zip2, length-zip2, length-replicate}
use Rattle.mbj_types.specs.Lanes.{lane_at}
use Rattle.mbj_hmac.specs.Inside.InLanes.{idle}
use Rattle.mbj_hmac.proofs.Vectors.{chosen, lane_is, lowered_is}
use Rattle.mbj_hmac.proofs.rests.lowered.Goals as goal

less : ℕ → ℕ → ℕ
less a b = (a + (2 ^ 32 - b)) % 2 ^ 32

pub returns : goal.returns
unfolding less
returns c i h le =
    let rests = c.args.rests in
    let m = c.args.m in
    let size : length rests ≡ 16 = c.fits-rests.0 in
    let r : ℕ = get_or rests i 0 in
    let here : lane_at 32 rests i ≡ r = lane_is w32 rests 16 i size c.fits-rests.1 h in
    let lower : get_or (zip2 less rests (replicate 16 m)) i 0 ≡ less r m =
    get_or-zip2 less rests (replicate 16 m) i 0 0 0 (omega (arith, size)) h ∙ ap (less r) (get_or-replicate 16 i m 0 h) in
    let splat : get_or (replicate 16 idle) i 0 ≡ idle = get_or-replicate 16 i idle 0 h in
    let long : length (zip2 less rests (replicate 16 m)) ≡ 16 = length-zip2 less rests (replicate 16 m) size ∙ size in
    ap (λ x. x % 2 ^ 32) (chosen w32 eqb rests (replicate 16 idle) rests (zip2 less rests (replicate 16 m)) 16 i size (length-replicate 16 idle) size long h)
    ∙ rw (splat, lower, here) (lowered_is r m (rw here at le) c.ranges.m.fits (λ lt. rw here at (c.requires i h (rw here lt))))
