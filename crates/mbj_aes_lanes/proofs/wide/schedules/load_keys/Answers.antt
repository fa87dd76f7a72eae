-- One half is loaded after the other.
use Rattle.std.proofs.Common.{[], slice_index_or, ◌∙◌}
use Rattle.mbj_types.specs.Lanes.{lane_at}
use Rattle.mbj_aes_lanes.specs.Inside.Wide.{tower_lane}
use Rattle.mbj_aes_lanes.proofs.WideWords.{both-halves}
use Rattle.mbj_aes_lanes.proofs.wide.schedules.load_keys.Goals as goal

pub returns : goal.returns
returns c i h size =
    c.load_half-2.ensures i h
    ∙ both-halves (slice_index_or c.args.bytes.now i []) (tower_lane (lane_at 8) c.args.words.now i) (tower_lane (lane_at 8) c.load_half.new.words i)
    size (c.load_half.ensures i h)
