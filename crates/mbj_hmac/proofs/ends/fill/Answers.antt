use Rattle.std.proofs.Common.{arith}
use Rattle.mbj_hmac.proofs.Numbers.{fill_is, fill_less, times_le, tail_range, size_range}
use Rattle.mbj_hmac.proofs.ends.fill.Goals as goal

pub overflow_mul-result : goal.overflow_mul-result
overflow_mul-result g c =
    let std = g.met.H.LaneHash.standard in
    let b = g.H.LaneHash.hashing.block_bytes in
    rw (c.block_bytes-block.ensures, c.tail_blocks.ensures) (omega (arith, times_le b std.size _ 2 (tail_range b std.size c.args.len).1, (size_range b std.size).1))

pub overflow_sub-result : goal.overflow_sub-result
overflow_sub-result g c =
    let std = g.met.H.LaneHash.standard in
    let b = g.H.LaneHash.hashing.block_bytes in
    rw (c.block_bytes-block.ensures, c.tail_blocks.ensures) (omega (arith, fill_is b std.size c.args.len))

pub overflow_sub-result-2 : goal.overflow_sub-result-2
overflow_sub-result-2 g c =
    let std = g.met.H.LaneHash.standard in
    let b = g.H.LaneHash.hashing.block_bytes in
    rw (c.block_bytes-block.ensures, c.tail_blocks.ensures) (omega (arith, fill_is b std.size c.args.len))

pub overflow_sub-result-3 : goal.overflow_sub-result-3
overflow_sub-result-3 g c =
    let std = g.met.H.LaneHash.standard in
    let b = g.H.LaneHash.hashing.block_bytes in
    rw (c.block_bytes-block.ensures, c.tail_blocks.ensures) (omega (arith, fill_is b std.size c.args.len))

pub returns-clause-value : goal.returns-clause-value
returns-clause-value g c =
    let std = g.met.H.LaneHash.standard in
    let b = g.H.LaneHash.hashing.block_bytes in
    rw (c.block_bytes-block.ensures, c.tail_blocks.ensures) (omega (arith, fill_is b std.size c.args.len))

pub returns-clause-within : goal.returns-clause-within
returns-clause-within g c =
    let std = g.met.H.LaneHash.standard in
    let b = g.H.LaneHash.hashing.block_bytes in
    rw (c.block_bytes-block.ensures, c.tail_blocks.ensures) (omega (arith, fill_less b std.size c.args.len, fill_is b std.size c.args.len))
