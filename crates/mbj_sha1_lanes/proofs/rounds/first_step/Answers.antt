use Rattle.sha1.proofs.Schedule.{rounds_first}
use Rattle.mbj_types.specs.Lanes.{lane_of}
use Rattle.mbj_types.proofs.LaneLists.{lane_read}
use Rattle.mbj_sha1_lanes.specs.Inside.Lanes.{working_lane}
use Rattle.mbj_sha1_lanes.proofs.Windows.{window_of}
use Rattle.std.proofs.Common.{arith}
use Rattle.mbj_sha1_lanes.proofs.rounds.first_step.Goals as goal

pub returns : goal.returns
returns g c i b h lt words at =
    let lane = g.V.Lane32.lane in
    rounds_first b h (lane_of lane c.args.words.now i) (working_lane lane c.args.v i) c.args.t
    (lane c.choice-mixed.result i) (lane c.index-words-t.result i) (working_lane lane c.round.result i)
    c.requires.high (window_of b _ words) at
    (lane_read lane c.args.words.now i c.args.t c.index-words-t.result (omega arith) c.index-words-t.is)
    (c.choice-mixed.ensures i lt) (c.round.ensures i lt)
