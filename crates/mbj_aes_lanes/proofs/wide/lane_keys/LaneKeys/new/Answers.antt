-- No lane was put.
use Rattle.std.proofs.Common.{replicate, refl}
use Rattle.mbj_aes_lanes.specs.Inside.WideKeys.{held_lanes}
use Rattle.mbj_aes_lanes.proofs.WideHeldKeys.{IsKeyArray-zeros, IsKeyArray-same}
use Rattle.mbj_aes_lanes.proofs.wide.lane_keys.LaneKeys.new.Goals as goal

pub round_keys_of-requires-clause-arrays : goal.round_keys_of-requires-clause-arrays
round_keys_of-requires-clause-arrays c = IsKeyArray-same c.args.rounds (replicate 32 0) (IsKeyArray-zeros c.args.rounds c.requires)

pub returns : goal.returns
unfolding held_lanes
returns c = refl
