use Rattle.mbj_sha_lanes.specs.Sha2.{working_lane}
use Rattle.mbj_sha_lanes.proofs.Windows.{round_next}
use Rattle.mbj_sha_lanes.proofs.windowed.step.Goals as goal

pub returns : goal.returns
returns g c i b h lt at =
    let lane = g.W.Words.lane in (
      c.next_word-word.ensures.window i b lt at.0,
      round_next g.met.H.Sha2.laws b h (working_lane lane c.args.v i) (working_lane lane c.round.result i) c.args.t _ _ at.1
          (c.round.ensures i lt) (c.constant.ensures i lt) (c.next_word-word.ensures.word i b lt at.0),
    )
