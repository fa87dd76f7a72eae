use Rattle.std.proofs.Common.{◌∙◌, arith}
use Rattle.mbj_types.proofs.LaneLists.{lane_read}
use Rattle.mbj_sha_lanes.specs.Sha2.{working_lane}
use Rattle.mbj_sha_lanes.proofs.Windows.{round_next}
use Rattle.mbj_sha_lanes.proofs.scheduled.step.Goals as goal

pub returns : goal.returns
returns g c i n b h lt within words at =
    let lane = g.W.Words.lane in
    let word =
    lane_read lane c.args.words.now i c.args.t c.index-words-t.result (omega arith) c.index-words-t.is
    ∙ words c.args.t (omega arith) in
    round_next g.met.H.Sha2.laws b h (working_lane lane c.args.v i) (working_lane lane c.round.result i) c.args.t _ _ at
    (c.round.ensures i lt) (c.constant.ensures i lt) word
