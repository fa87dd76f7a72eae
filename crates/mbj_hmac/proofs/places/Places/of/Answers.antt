use Rattle.std.proofs.Common.{ℕ, ◌/◌, ◌^◌, ◌<◌, arith}
use Rattle.mbj_hmac.proofs.Numbers.{by_size, tail_range}
use Rattle.mbj_hmac.proofs.Laid.{outer_few}
use Rattle.mbj_hmac.proofs.places.Places.of.Goals as goal

pub overflow_cast-behind : goal.overflow_cast-behind
overflow_cast-behind g c =
    omega (arith, c.tail_blocks.ensures, (tail_range g.H.LaneHash.hashing.block_bytes g.met.H.LaneHash.standard.size c.args.len).1)

pub overflow_add-behind : goal.overflow_add-behind
overflow_add-behind g c =
    omega (
      arith,
      c.tail_blocks.ensures,
      (tail_range g.H.LaneHash.hashing.block_bytes g.met.H.LaneHash.standard.size c.args.len).1,
      c.outer_rounds.ensures,
      outer_few c.args.form,
    )

pub overflow_add-result : goal.overflow_add-result
overflow_add-result g c =
    let b : ℕ = g.H.LaneHash.hashing.block_bytes in
    let size = g.met.H.LaneHash.standard.size in
    let few : c.args.len / b < 2 ^ 31 = by_size b size (λ n. c.args.len / n < 2 ^ 31) (omega (arith, c.requires)) (omega (arith, c.requires)) in
    rw c.block_bytes.ensures
    (omega (arith, few, c.tail_blocks.ensures, (tail_range b size c.args.len).1, c.outer_rounds.ensures, outer_few c.args.form))
