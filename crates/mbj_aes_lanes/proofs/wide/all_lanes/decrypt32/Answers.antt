-- Each block goes through its own lane.
use Rattle.std.proofs.Common.{ap, ap₂, ◌∙◌, length}
use Rattle.mbj_types.specs.Aes.{decipher}
use Rattle.mbj_types.specs.Lanes.{lane_at}
use Rattle.mbj_aes_lanes.proofs.WideKeys.{length-state_lane}
use Rattle.mbj_aes_lanes.proofs.wide.all_lanes.decrypt32.Goals as goal

pub returns-clause-each : goal.returns-clause-each
returns-clause-each c i h =
    c.store_state.ensures i h
    ∙ c.decrypt.ensures i h
    ∙ ap₂ decipher (c.round_keys.ensures.schedules i h (c.requires i h)) (c.load_state-state.ensures i h)

pub returns-clause-lengths : goal.returns-clause-lengths
returns-clause-lengths c i h = ap length (c.store_state.ensures i h) ∙ length-state_lane (lane_at 8) c.decrypt.new.s i
