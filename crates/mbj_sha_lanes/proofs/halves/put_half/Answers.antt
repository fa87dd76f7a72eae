-- One vector more has its half in each turn.
use Rattle.std.proofs.Common.{◌≡◌, ◌+◌, [], slice_index_or, arith}
use Rattle.mbj_types.specs.Lanes.{lane_at}
use Rattle.mbj_sha_lanes.specs.Halves.{first_of}
use Rattle.mbj_sha_lanes.proofs.Groups.{same_lanes}
use Rattle.mbj_sha_lanes.proofs.VectorParts.{set_more}
use Rattle.mbj_sha_lanes.proofs.halves.put_half.Goals as goal

pub vectors-preserved : goal.vectors-preserved
vectors-preserved c j i lt h =
    set_more (λ j v. lane_at 32 v (first_of c.args.half + i) ≡ lane_at 32 (slice_index_or c.args.parts.now j []) i) c.vectors.vectors c.vectors.k c.with_part.result []
    (omega arith) (λ j lt. c.vectors.invariant j i lt h) (c.with_part.ensures i h) j lt

pub returns : goal.returns
returns c i h = same_lanes 32 c.vectors.vectors c.args.parts.now (first_of c.args.half + i) i (omega arith) (λ k lt. c.vectors.invariant k i (omega arith) h)
