-- Lane i is lane j of its half.
use Rattle.std.proofs.Common.{◌≡◌, ◌+◌, sym, ◌∙◌, arith}
use Rattle.mbj_types.specs.Lanes.{lane_at, lane_of}
use Rattle.mbj_sha_lanes.specs.Halves.{first_of}
use Rattle.mbj_sha_lanes.specs.Words.{words32}
use Rattle.mbj_sha_lanes.proofs.VectorParts.{first_of-le}
use Rattle.mbj_hmac.proofs.InHalves.{in_half}
use Rattle.mbj_hmac.proofs.loaded.loaded.Goals as goal

pub half_words-requires-clause-lent : goal.half_words-requires-clause-lent
half_words-requires-clause-lent g c i lt = c.requires.lent (first_of c.in-Some.half + i) (omega (arith, first_of-le c.in-Some.half))

pub returns-in-Some-clause-lanes : goal.returns-in-Some-clause-lanes
returns-in-Some-clause-lanes g c i lt within =
    in_half c.in-Some.half (λ i. words32 (g.B.Blocks.block c.args.blocks.now i) ≡ lane_of (lane_at 32) c.put_half.new.vectors i)
    (λ j inside. c.half_words.ensures.lanes j inside ∙ sym (c.put_half.ensures j inside)) i (rw c.in-Some.is at within)
