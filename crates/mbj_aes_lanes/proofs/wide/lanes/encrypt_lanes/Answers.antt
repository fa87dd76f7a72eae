-- The block in each lane goes through the rounds.
use Rattle.std.proofs.Common.{ap, ◌∙◌}
use Rattle.mbj_types.specs.Aes.{encipher}
use Rattle.mbj_types.specs.Lanes.{lane_of}
use Rattle.mbj_aes_lanes.proofs.WideWords.{round_key-whole}
use Rattle.mbj_aes_lanes.proofs.wide.lanes.encrypt_lanes.Goals as goal

pub returns : goal.returns
returns g c i h =
    let lane = g.V.Lane8.lane in
    c.put_state.ensures i
    ∙ c.encrypt.ensures i h
    ∙ ap (encipher (lane_of lane c.args.keys.now i)) (c.state_at-s.ensures.plain i ∙ round_key-whole lane c.args.state.now i c.requires.state)
