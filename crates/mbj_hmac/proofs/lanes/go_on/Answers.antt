use Rattle.std.proofs.Common.{◌<◌, ◌∙◌, length, arith}
use Rattle.mbj_lane.proofs.Halfway.{halfway-all}
use Rattle.mbj_hmac.specs.Inside.InLanes.{moved}
use Rattle.mbj_hmac.proofs.InLanes.{moved_next}
use Rattle.mbj_hmac.proofs.lanes.go_on.Goals as goal

pub rests-preserved : goal.rests-preserved
rests-preserved g c =
    let es = c.args.entries.now in
    let lt : c.rests.i < length es = omega arith in
    moved_next c.args.m c.rests.i es c.rests.entries c.index-entries-i.result c.go_on.new.self c.rests.invariant lt c.go_on.ensures

pub returns : goal.returns
returns g c = c.rests.invariant ∙ halfway-all (moved c.args.m) c.rests.i c.args.entries.now (omega arith)
