-- A lane is one of the first group, or one of the second.
use Rattle.mbj_sha_lanes.specs.Words.{words64}
use Rattle.mbj_sha_lanes.proofs.Groups.{both_lanes}
use Rattle.mbj_sha_lanes.proofs.load64.U64x8Load64.block_words.Goals as goal

pub returns-clause-lanes : goal.returns-clause-lanes
returns-clause-lanes g c =
    let low = c.group_words-low in
    let high = c.group_words-high in
    both_lanes 64 4 16 c.joined.result low.result high.result c.joined.ensures.vectors low.ensures.vectors high.ensures.vectors low.ensures.width
    c.joined.ensures.words (λ k. words64 (g.B.Blocks.block c.args.blocks.now k)) low.ensures.lanes high.ensures.lanes
