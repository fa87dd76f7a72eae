-- The first lanes or the last.
use Rattle.std.proofs.Common.{◌+◌, ℕ, List, ap, sym, ◌∙◌, arith}
use Rattle.mbj_types.specs.Lanes.{lane_at}
use Rattle.mbj_sha_lanes.specs.Halves.{first_of}
use Rattle.mbj_sha_lanes.proofs.VectorParts.{lane-extract}
use Rattle.mbj_sha_lanes.proofs.halves.part_of.Goals as goal
use Rattle.mbj_sha_lanes.proofs.halves.part_of.Goals.{in-Lower, in-Upper}

pub returns : goal.returns
returns c i h =
    let v : List ℕ = c.args.vector in
    let size = c.fits-vector.0 in
    elim c.match-half.branch [
      | in-Lower w ↦ ap (λ x. lane_at 32 x i) w.result-is ∙ lane-extract v 0 i size (omega arith) h ∙ ap (λ half. lane_at 32 v (first_of half + i)) (sym w.in-Lower.is)
      | in-Upper w ↦ ap (λ x. lane_at 32 x i) w.result-is ∙ lane-extract v 8 i size (omega arith) h ∙ ap (λ half. lane_at 32 v (first_of half + i)) (sym w.in-Upper.is)
    ]
