use Rattle.std.proofs.Common.{◌≡◌, ◌∙◌, ap₂}
use Rattle.sha1.specs.Sha1.{rounds, compress, add_state, schedule}
use Rattle.mbj_types.specs.Lanes.{lane_of}
use Rattle.mbj_sha1_lanes.specs.Inside.Lanes.{working_lane}
use Rattle.mbj_sha1_lanes.proofs.Windows.{five_read, five_written}
use Rattle.mbj_sha1_lanes.proofs.lanes.compress_lanes.Goals as goal

pub returns : goal.returns
unfolding compress
returns g c i b lt words =
    let lane = g.V.Lane32.lane in
    let states = c.args.states.now in
    let h = lane_of lane states i in
    let start = five_read lane states _ _ _ _ _ i c.requires.states c.index-states-0.is c.index-states-1.is c.index-states-2.is c.index-states-3.is c.index-states-4.is in
    let done : working_lane lane c.all_rounds-v.result i ≡ rounds h (schedule b 64) 80 =
    rw start at (c.all_rounds-v.ensures i b lt words) in
    five_written lane states _ _ _ _ _ i c.requires.states
    ∙ rw (c.plus.ensures i lt, c.plus-2.ensures i lt, c.plus-3.ensures i lt, c.plus-4.ensures i lt, c.plus-5.ensures i lt) (ap₂ add_state start done)
