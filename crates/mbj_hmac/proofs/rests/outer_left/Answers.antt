use Rattle.std.proofs.Common.{◌∙◌, refl, arith}
use Rattle.mbj_hmac.specs.Inside.InLanes.{never}
use Rattle.mbj_hmac.proofs.Vectors.{splat_is}
use Rattle.mbj_hmac.proofs.rests.outer_left.Goals as goal

pub returns : goal.returns
returns c i h =
    c.where_equal.ensures i h
    ∙ rw (splat_is 16 i never h (omega arith), splat_is 16 i 0 h (omega arith)) refl
