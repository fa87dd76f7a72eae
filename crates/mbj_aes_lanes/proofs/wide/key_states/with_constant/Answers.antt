-- The constant in each byte is added.
use Rattle.std.proofs.Common.{ap, ◌∙◌}
use Rattle.mbj_types.specs.Blocks.{xor_lists}
use Rattle.mbj_aes_lanes.specs.Inside.Wide.{state_lane}
use Rattle.mbj_aes_lanes.proofs.WideKeys.{constant-added}
use Rattle.mbj_aes_lanes.proofs.wide.key_states.with_constant.Goals as goal

pub returns : goal.returns
returns g c i h =
    c.add_round_key.ensures i h
    ∙ ap (xor_lists (state_lane g.V.Lane8.lane c.args.s i)) (c.splat_state.ensures i h)
    ∙ constant-added g.V.Lane8.lane c.args.s i
