use Rattle.std.proofs.Common.{sym, subst, ap, ◌∙◌, arith}
use Rattle.mbj_core.specs.declared.party.View.{View}
use Rattle.mbj_front.specs.Moves.{looking, Led}
use Rattle.mbj_front.proofs.Allowed.{scans}
use Rattle.mbj_front.proofs.Kept.{kept_looked}
use Rattle.mbj_front.proofs.front.SharedFront.scan.Goals as goal

pub load-requires : goal.load-requires
load-requires g c = let t = c.args.self.now.table.shared in let k = c.args.seat.now.keeps in
    (c.requires.front.0, omega (arith, k.word_count, c.requires.cell, c.requires.front.1, ap (λ i. i.words) c.requires.front.0), scans g.R.Results.owed t.key.submitters t.key.workers _ _ c.args.cell _ k.cut (omega (arith, c.requires.cell, c.requires.front.1)))

pub invariant_of-seat : goal.invariant_of-seat
invariant_of-seat g c = let seat = c.args.seat.now in let told = c.load.ensures in
    record { keeps = kept_looked _ _ _ _ _ c.args.cell c.load.result seat.inner.me _ seat.keeps (ap (λ i. i.words) told.0) told.2.0 }

pub returns-clause-front : goal.returns-clause-front
returns-clause-front g c = let front = c.requires.front in let told = c.load.ensures in
    (told.0 ∙ front.0, ap (λ m. m.0.submitters) told.2.0 ∙ front.1, ap (λ m. m.0.workers) told.2.0 ∙ front.2)

pub returns-clause-view : goal.returns-clause-view
returns-clause-view g c = ap (λ m. m.0.view) c.load.ensures.2.0

pub returns-clause-step : goal.returns-clause-step
returns-clause-step g c = let me = c.args.seat.now.inner.me.0 in let did = c.load.ensures.2 in
    subst (λ (w : View g.row.D.Denot). Led g.R.Results.owed me.submitters me.workers me.view (looking c.args.cell c.load.result) w) (sym (ap (λ m. m.0.view) did.0)) did.1
