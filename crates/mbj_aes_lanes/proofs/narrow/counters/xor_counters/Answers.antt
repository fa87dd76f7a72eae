-- All blocks follow the counter.
use Rattle.std.proofs.Common.{ap}
use Rattle.std.specs.List.{concat}
use Rattle.mbj_types.specs.Aes.{encipher}
use Rattle.mbj_types.specs.Blocks.{blocks}
use Rattle.mbj_types.specs.Modes.{ctr_blocks}
use Rattle.mbj_aes_lanes.proofs.narrow.counters.xor_counters.Goals as goal

pub returns : goal.returns
returns c =
    c.xor_from.ensures (concat (ctr_blocks (encipher c.args.key.now) c.args.counter (blocks c.args.text.now)))
    (ap (λ w. concat (ctr_blocks (encipher w) c.args.counter (blocks c.args.text.now))) c.new.ensures)
