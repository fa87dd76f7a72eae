-- The job goes into the cell, and its range stands at its place.
use Rattle.std.proofs.Common.{◌≡◌, ◌<◌, ◌≤◌, ◌+◌, ◌∙◌, Ok, Result, Some, ap, arith, length, subst, sym}
use Rattle.mbj_manager.specs.State.{ManagerState}
use Rattle.mbj_manager.specs.Cells.{Cell, job_in}
use Rattle.mbj_ring.specs.declared.ring.TheConstants.{CELLS}
use Rattle.mbj_c.specs.declared.refusal.Refusal.{Refusal}
use Rattle.mbj_c.specs.Filling.{job_with, with_cell, with_job_at}
use Rattle.mbj_c.specs.Inside.Answers.{IsDone}
use Rattle.mbj_c.specs.State.{RangedState, ranged}
use Rattle.mbj_c.proofs.Cells.{put_more}
use Rattle.mbj_c.proofs.Ranges.{filled-ranged}
use Rattle.mbj_c.proofs.Refused.{filled-is}
use Rattle.mbj_c.proofs.ranged.RangedManager.fill.Goals as goal

pub returns-in-Ok-clause-done : goal.returns-in-Ok-clause-done
returns-in-Ok-clause-done c =
    let k : RangedState = c.args.self.now in
    let m : ManagerState = c.self.inside.manager in
    let cell = c.args.cell in
    let raw = c.args.raw.now in
    let words = c.in-Some.words in
    let room : length k.manager.owed + cell < CELLS =
    subst (λ (x : RangedState). length x.manager.owed + cell < CELLS) c.self.view_is (omega (arith, c.if-cell-queue_size.false, c.queue_size.ensures.size)) in
    let is = filled-is cell raw words k room (sym c.words.ensures ∙ c.in-Some.is) in
    let after : ranged c.fill_cell.new.manager c.self.inside.sessions ≡ with_job_at cell (job_with raw words) k =
    ap (λ (x : ManagerState). ranged x c.self.inside.sessions)
    (c.fill_cell.ensures.state ∙ ap (λ (v : Cell). with_cell cell (job_in v) m) c.in-Ok.ensures)
    ∙ filled-ranged cell (job_with raw words) c.self.inside.sessions m ∙ ap (with_job_at cell (job_with raw words)) c.self.view_is in
    subst (λ (a : Result Unit Refusal × RangedState). IsDone a k (Ok tt) (ranged c.fill_cell.new.manager c.self.inside.sessions)) (sym is) after

pub returns-in-Ok-clause-open : goal.returns-in-Ok-clause-open
returns-in-Ok-clause-open c =
    let m : ManagerState = c.self.inside.manager in
    let cell = c.args.cell in
    let within : cell ≤ length m.opened = subst (λ (x : RangedState). cell ≤ length x.manager.opened) (sym c.self.view_is) c.requires.cell in
    let more = put_more cell (job_in c.fill_spare.new.spare) m.opened within in
    subst (λ (x : ManagerState). cell < length x.opened) (sym c.fill_cell.ensures.state) (omega (arith, more))
