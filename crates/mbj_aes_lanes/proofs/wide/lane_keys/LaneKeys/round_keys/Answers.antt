-- A lane that was put holds its schedule.
use Rattle.std.proofs.Common.{◌∙◌}
use Rattle.mbj_aes_lanes.proofs.WideHeldKeys.{held_schedule}
use Rattle.mbj_aes_lanes.proofs.wide.lane_keys.LaneKeys.round_keys.Goals as goal

pub returns-clause-schedules : goal.returns-clause-schedules
returns-clause-schedules c =
    let self = c.self.inside in
    rw (← c.self.view_is) (λ i h some. c.self.invariant.1.schedules i h ∙ held_schedule self.rounds self.keys self.put i some)
