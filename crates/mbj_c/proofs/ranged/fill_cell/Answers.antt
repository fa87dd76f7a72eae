-- The filled job takes the place of one that is open.
use Rattle.std.proofs.Common.{◌≡◌, ◌<◌, ◌∙◌, List, ap, arith, length}
use Rattle.mbj_types.specs.declared.job.Job.{Job}
use Rattle.mbj_manager.specs.Cells.{job_in}
use Rattle.mbj_manager.specs.State.{ManagerState}
use Rattle.mbj_c.proofs.Cells.{put_over}
use Rattle.mbj_c.proofs.ranged.fill_cell.Goals as goal

pub returns-else-cell-open_len-clause-state : goal.returns-else-cell-open_len-clause-state
returns-else-cell-open_len-clause-state c =
    let m : ManagerState = c.args.manager.now in
    let below : c.args.cell < length m.opened = omega (arith, c.if-cell-open_len.false, c.open_len.ensures, c.requires.cell) in
    c.exchange.ensures.state ∙ ap (λ (js : List Job). record m { opened = js }) (put_over c.args.cell (job_in c.args.filled.now) m.opened below)
