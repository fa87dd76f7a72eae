-- The words are those of the blocks.
use Rattle.std.proofs.Common.{map, ap, ◌∙◌, arith}
use Rattle.mbj_types.specs.Lanes.{lane_at}
use Rattle.mbj_aes.specs.Tower.{from_tower}
use Rattle.mbj_aes_lanes.proofs.WideWords.{round_key-whole}
use Rattle.mbj_aes_lanes.proofs.wide.schedules.put_in_tower.Goals as goal

pub returns : goal.returns
returns g c i h =
    ap (map from_tower) (c.put_state.ensures i)
    ∙ c.to_tower-state.ensures i h
    ∙ c.state_at.ensures.plain i
    ∙ round_key-whole (lane_at 8) c.words_of.new.words i (omega arith)
    ∙ c.words_of.ensures i h
