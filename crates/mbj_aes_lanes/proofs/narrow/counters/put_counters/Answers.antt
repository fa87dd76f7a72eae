-- If the low half does not wrap, neither does the counter.
use Rattle.std.proofs.Common.{◌≡◌, ℕ, ◌+◌, ◌*◌, ◌/◌, ◌%◌, ◌^◌, ◌<◌, ap, ◌∙◌, arith}
use Rattle.std.specs.Int.{w128, to_be_bytes}
use Rattle.mbj_aes_lanes.proofs.narrow.counters.put_counters.Goals as goal

pub returns-then-low : goal.returns-then-low
returns-then-low c j h =
    let n : ℕ = c.args.counter in
    let size : n < 2 ^ 128 = c.ranges.counter.fits in
    let near : n % 18446744073709551616 + j + 2 ^ 64 * (n / 18446744073709551616) ≡ (n + j) % 2 ^ 128 =
    omega (arith, size, c.if-low.true) in
    c.put_near_counters.ensures j h ∙ ap (to_be_bytes w128) near
