-- As many results are owed as the works have jobs.
use Rattle.std.proofs.Common.{◌∙◌, ◌<◌, ◌==◌, length, ap, sym, arith, eq-eqb}
use Rattle.std.proofs.lemmas.Bool.{OnFalse_from, eqb-false, eqb-true}
use Rattle.mbj_ring.specs.declared.ring.TheConstants.{CELLS}
use Rattle.mbj_manager.specs.State.{ManagerState}
use Rattle.mbj_manager.proofs.manager.Manager.is_full.Goals as goal

pub returns-clause-full : goal.returns-clause-full
returns-clause-full c =
    let is = c.len.ensures.size ∙ ap (λ (h : ManagerState). length h.owed) c.self.view_is in
    ((λ full. sym is ∙ eqb-true _ _ full), (λ full. eq-eqb _ _ (is ∙ full)))

pub returns-clause-room : goal.returns-clause-room
returns-clause-room c =
    let is = c.len.ensures.size ∙ ap (λ (h : ManagerState). length h.owed) c.self.view_is in
    OnFalse_from (c.len.result == CELLS) (length c.args.self.now.owed < CELLS) (λ free. omega (arith, eqb-false _ _ free, c.len.ensures.within, is))
