use Rattle.mbj_core.proofs.Fields.{held_read}
use Rattle.mbj_core.proofs.machine.Core.held_job.Goals as goal

pub returns : goal.returns
returns c =
    let li = rw (← c.self.view_is) at c.requires.cell in
    let read = held_read c.self.inside c.self.invariant c.held_by.result c.args.p c.args.cell c.index.result.now li c.index.ensures c.held_by.ensures in
    rw (← c.self.view_is) (record { held = read.0; none = read.1 })
