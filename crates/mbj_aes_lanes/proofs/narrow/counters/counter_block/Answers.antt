-- A counter is its two halves.
use Rattle.std.proofs.Common.{◌≡◌, ℕ, ◌+◌, ◌*◌, ◌/◌, ◌%◌, ◌^◌, ap, ◌∙◌, arith}
use Rattle.std.specs.Int.{w128, to_be_bytes}
use Rattle.mbj_aes_lanes.proofs.narrow.counters.counter_block.Goals as goal

pub returns : goal.returns
returns c =
    let n : ℕ = c.args.counter in
    let whole : n % 18446744073709551616 + 2 ^ 64 * (n / 18446744073709551616) ≡ n = omega arith in
    c.halves_block.ensures ∙ ap (to_be_bytes w128) whole
