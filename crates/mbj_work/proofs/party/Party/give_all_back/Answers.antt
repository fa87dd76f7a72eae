use Rattle.std.proofs.Common.{sym, ap, ◌∙◌}
use Rattle.mbj_front.specs.Seats.{view_of}
use Rattle.mbj_front.specs.Views.{after_finish}
use Rattle.mbj_work.specs.Parties.{manager_of}
use Rattle.mbj_work.proofs.HandTurns.{finishes_hand, gives_on}
use Rattle.mbj_work.proofs.Hands.{none_left}
use Rattle.mbj_work.proofs.party.Party.give_all_back.Goals as goal

pub returns-clause-none : goal.returns-clause-none
returns-clause-none g c = let told = c.loop-test.ensures in
    none_left (manager_of c.loop.self) (manager_of c.give_back.new.self) told.part.0 told.manager

pub loop-preserved : goal.loop-preserved
loop-preserved g c =
    let i = view_of c.args.self.now.seat in let v = view_of c.loop.self.seat in let w = view_of c.give_back.new.self.seat in
    let told = c.loop-test.ensures in let f = told.part.2 in
    record {
      front = told.front;
      hand = gives_on i.hand v.hand w.hand c.loop.invariant.hand (finishes_hand v w f.cell told.part.0 f.more f.first f.part);
      part = f.part ∙ ap (λ u. after_finish u f.more) c.loop.invariant.part ∙ ap (after_finish i) (sym (ap (λ u. u.hand) f.part));
    }
