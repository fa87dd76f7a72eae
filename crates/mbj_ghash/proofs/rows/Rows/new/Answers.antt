-- One multiple after another stands in both halves.
use Rattle.std.proofs.Common.{ap}
use Rattle.mbj_types.specs.Ghash.{element}
use Rattle.mbj_types.specs.Lanes.{lane_at}
use Rattle.mbj_aes.specs.BlockWords.{block_byte}
use Rattle.mbj_aes.proofs.BlockWords.{block_with-each}
use Rattle.mbj_types.specs.Field.{times_power}
use Rattle.mbj_ghash.specs.Inside.{IsInBoth}
use Rattle.mbj_ghash.proofs.rows.Rows.new.Goals as goal

pub returns : goal.returns
unfolding times_power
returns c =
    let p = element c.args.h.now in
    let h0 : IsInBoth (element c.args.h.now) c.in_each_block-by_1.result =
    λ b h. ap element (block_with-each (block_byte (lane_at 8) c.in_each_block-by_1.result b) c.args.h.now c.told-h (λ j k. c.in_each_block-by_1.ensures b j h k)) in
    let h1 = c.times_x-by_x.ensures p h0 in
    let h2 = c.times_x-by_x2.ensures (times_power 1 p) h1 in
    let h3 = c.times_x-by_x3.ensures (times_power 2 p) h2 in
    let h4 = c.times_x-by_x4.ensures (times_power 3 p) h3 in
    let h5 = c.times_x-by_x5.ensures (times_power 4 p) h4 in
    let h6 = c.times_x-by_x6.ensures (times_power 5 p) h5 in
    let h7 = c.times_x.ensures (times_power 6 p) h6 in
    record {
      high = c.eight_rows.ensures p h0 h1 h2 h3;
      low = c.eight_rows-2.ensures (times_power 4 p) h4 h5 h6 h7;
    }
