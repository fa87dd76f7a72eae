use Rattle.std.proofs.Common.{◌≡◌, min, arith}
use Rattle.mbj_lane.proofs.Least.{least-next, least-end}
use Rattle.mbj_job_tests.proofs.gathered.shortest.Goals as goal
use Rattle.mbj_job_tests.proofs.gathered.shortest.Goals.{then-rest-least, else-rest-least}

pub rests-preserved : goal.rests-preserved
rests-preserved g c =
    let rest = g.K.Kernel.rest_of in let found = c.rest-rest.ensures in
    let less : c.if-rest-least.least ≡ min c.rests.least (rest c.entry-item.result) =
    elim c.if-rest-least.branch [ then-rest-least w ↦ omega (arith, found) | else-rest-least w ↦ omega (arith, found) ] in
    least-next rest c.rests.least _ c.rests.entry-index _ c.entry-item.result c.rests-test.true c.entry-item.is less c.rests.invariant

pub returns : goal.returns
returns g c =
    let rest = g.K.Kernel.rest_of in
    least-end rest c.rests.least c.rests.entry-index c.args.entries.now c.rests-test.false c.rests.invariant
