-- The four lane words are the word in each lane.
use Rattle.std.proofs.Common.{◌+◌, ◌-◌, ◌*◌, arith}
use Rattle.mbj_aes_lanes.proofs.WideWords.{lane_of-put}
use Rattle.mbj_aes_lanes.proofs.wide.words.put_word.Goals as goal

pub returns : goal.returns
returns g c k =
    lane_of-put g.V.Lane8.lane c.args.words.now (4 * c.args.i) (4 * c.args.i + 4 - 4 * c.args.i) c.args.word k (omega arith) (omega arith)
