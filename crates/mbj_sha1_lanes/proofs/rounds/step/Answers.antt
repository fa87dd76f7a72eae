use Rattle.std.proofs.Common.{ap, ◌∙◌}
use Rattle.sha1.proofs.Schedule.{rounds_window}
use Rattle.mbj_types.specs.Lanes.{lane_of}
use Rattle.mbj_types.proofs.LaneLists.{lane_of-set}
use Rattle.mbj_sha1_lanes.specs.Inside.Lanes.{working_lane}
use Rattle.mbj_sha1_lanes.proofs.rounds.step.Goals as goal

pub returns : goal.returns
returns g c i b h lt at =
    let lane = g.V.Lane32.lane in
    rounds_window b h (lane_of lane c.args.words.now i) (working_lane lane c.args.v i) c.args.t
    (lane c.function_at-mixed.result i) c.constant_at.result (lane c.next_word-word.result i)
    (lane_of lane c.next_word-word.new.words i) (working_lane lane c.round.result i)
    c.requires.low c.requires.high at.0 at.1
    (c.next_word-word.ensures.value i lt)
    (ap (λ xs. lane_of lane xs i) c.next_word-word.ensures.window ∙ lane_of-set lane c.args.words.now i _ c.next_word-word.result)
    (c.function_at-mixed.ensures i lt) c.constant_at.ensures (c.round.ensures i lt)
