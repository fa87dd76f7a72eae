-- The job that is looked at stays as it is.
use Rattle.std.proofs.Common.{List, ap}
use Rattle.mbj_types.specs.declared.job.Job.{Job}
use Rattle.mbj_c.proofs.Ranges.{first-same}
use Rattle.mbj_c.proofs.ranged.open_fits.Goals as goal

pub returns-clause-same : goal.returns-clause-same
returns-clause-same c =
    let m = c.args.manager.now in
    ap (λ (js : List Job). record m { opened = js }) (first-same m.opened c.burst_mut-job.result.now c.burst_mut-job.ensures.value)
