-- One vector more has its half in each turn.
use Rattle.std.proofs.Common.{◌≡◌, ◌+◌, [], slice_index_or, arith}
use Rattle.mbj_types.specs.Lanes.{lane_at}
use Rattle.mbj_sha_lanes.specs.Halves.{first_of}
use Rattle.mbj_sha_lanes.proofs.Groups.{same_lanes}
use Rattle.mbj_sha_lanes.proofs.VectorParts.{set_more}
use Rattle.mbj_sha_lanes.proofs.halves.take_half.Goals as goal

pub vectors-preserved : goal.vectors-preserved
vectors-preserved c j i lt h =
    set_more (λ j v. lane_at 32 v i ≡ lane_at 32 (slice_index_or c.args.vectors.now j []) (first_of c.args.half + i)) c.vectors.parts c.vectors.k c.part_of.result []
    (omega arith) (λ j lt. c.vectors.invariant j i lt h) (c.part_of.ensures i h) j lt

pub returns-clause-lanes : goal.returns-clause-lanes
returns-clause-lanes c i h = same_lanes 32 c.vectors.parts c.args.vectors.now i (first_of c.args.half + i) (omega arith) (λ k lt. c.vectors.invariant k i (omega arith) h)
