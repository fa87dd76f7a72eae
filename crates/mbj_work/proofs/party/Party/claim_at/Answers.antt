use Rattle.std.proofs.Common.{[], ◌∷◌, ◌++◌, ℕ, Option, refl, sym, ap, subst, ◌∙◌}
use Rattle.circular_buffer.specs.Buffer.{buffer}
use Rattle.mbj_types.specs.declared.done.Done.{Done}
use Rattle.mbj_types.specs.Result.{result_of}
use Rattle.mbj_core.specs.declared.party.View.{View}
use Rattle.mbj_front.specs.Moves.{Led, claiming}
use Rattle.mbj_front.specs.Seats.{view_of}
use Rattle.mbj_front.specs.Views.{after_claim}
use Rattle.mbj_work.specs.Claims.{FinishesFirst, FinishesGiven}
use Rattle.mbj_work.specs.Inside.Holding.{cells_in, results_in}
use Rattle.mbj_work.specs.declared.party.TheConstants.{HAND_ROOM}
use Rattle.mbj_work.proofs.Hands.{cells_with, first_of, left_of, owed_below, results_with}
use Rattle.mbj_work.proofs.Keeping.{keeps_on, keeps_looking, keeps_claiming, keeps_finishing}
use Rattle.mbj_work.proofs.party.Party.claim_at.Goals as goal

pub finish_first-requires-clause-first : goal.finish_first-requires-clause-first
finish_first-requires-clause-first g c = let v = view_of c.args.self.now.seat in let d = result_of c.in-Ok.job in
    first_of (view_of c.try_claim.new.seat).hand c.in-Some.done c.submit_known.new.manager.owed
    (c.in-Some.ensures.order ∙ ap (λ l. l ++ d ∷ []) c.args.self.now.holds.owed_is
    ∙ sym (results_with v.hand c.args.cell d) ∙ ap (λ w. results_in w.hand) (sym c.in-Ok.ensures.view))

pub invariant_of-self-in-Some : goal.invariant_of-self-in-Some
invariant_of-self-in-Some g c = let v = view_of c.args.self.now.seat in let d = result_of c.in-Ok.job in let left = c.finish_first.ensures.part in record {
  holds = record {
    rest = ap (λ w. w.phase) left.part ∙ ap (λ w. w.phase) c.in-Ok.ensures.view ∙ c.args.self.now.holds.rest;
    cells_are = c.finish_first.ensures.cells;
    owed_is = left_of (view_of c.try_claim.new.seat).hand left.more left.cell c.in-Some.done c.submit_known.new.manager.owed
        (c.in-Some.ensures.order ∙ ap (λ l. l ++ d ∷ []) c.args.self.now.holds.owed_is
        ∙ sym (results_with v.hand c.args.cell d) ∙ ap (λ w. results_in w.hand) (sym c.in-Ok.ensures.view))
        left.first ∙ ap (λ w. results_in w.hand) (sym left.part);
  };
  blank_given = c.submit_known.ensures.blank;
  room = c.args.self.now.room;
}

pub returns-in-Err-clause-part : goal.returns-in-Err-clause-part
returns-in-Err-clause-part g c = (c.in-Err.ensures.view, refl)

pub returns-in-Err-clause-due : goal.returns-in-Err-clause-due
returns-in-Err-clause-due g c =
    keeps_looking (view_of c.args.self.now.seat) (view_of c.try_claim.new.seat) ((c.args.cell, c.in-Err.word) ∷ []) c.args.self.now.holds.rest c.in-Err.ensures.view

pub returns-in-Some-clause-due : goal.returns-in-Some-clause-due
returns-in-Some-clause-due g c =
    let v = view_of c.args.self.now.seat in let w = view_of c.try_claim.new.seat in let left = c.finish_first.ensures.part in
    let claimed = keeps_claiming v w c.args.cell (result_of c.in-Ok.job) c.args.self.now.holds.rest c.in-Ok.ensures.view in
    keeps_on v w (view_of c.finish_first.new.seat) claimed (keeps_finishing w (view_of c.finish_first.new.seat) left.more claimed.1 left.part)

pub returns-in_default-clause-due : goal.returns-in_default-clause-due
returns-in_default-clause-due g c =
    keeps_claiming (view_of c.args.self.now.seat) (view_of c.try_claim.new.seat) c.args.cell (result_of c.in-Ok.job) c.args.self.now.holds.rest c.in-Ok.ensures.view

pub returns-in_default-clause-part : goal.returns-in_default-clause-part
returns-in_default-clause-part g c =
    let front = c.args.front.now in let v = view_of c.args.self.now.seat in let w = view_of c.try_claim.new.seat in record {
      job = c.in-Ok.job;
      claim = subst (λ (x : ℕ × ℕ × View Done). Led result_of x.0 x.1 v (claiming c.args.cell c.in-Ok.job) x.2)
          (λ i. (c.requires.front.1 i, c.requires.front.2 i, c.in-Ok.ensures.view i)) c.in-Ok.ensures.step;
      manager_is = c.submit_known.ensures.state;
      part = subst (λ (o : Option Done). FinishesGiven front o (after_claim v c.args.cell (result_of c.in-Ok.job)) w)
          (sym c.in_default.is ∙ c.submit_known.ensures.result) c.in-Ok.ensures.view;
    }

pub returns-in-Some-clause-part : goal.returns-in-Some-clause-part
returns-in-Some-clause-part g c =
    let front = c.args.front.now in let v = view_of c.args.self.now.seat in let w = view_of c.finish_first.new.seat in record {
      job = c.in-Ok.job;
      claim = subst (λ (x : ℕ × ℕ × View Done). Led result_of x.0 x.1 v (claiming c.args.cell c.in-Ok.job) x.2)
          (λ i. (c.requires.front.1 i, c.requires.front.2 i, c.in-Ok.ensures.view i)) c.in-Ok.ensures.step;
      manager_is = c.submit_known.ensures.state;
      part = subst (λ (o : Option Done). FinishesGiven front o (after_claim v c.args.cell (result_of c.in-Ok.job)) w)
          (sym c.in-Some.is ∙ c.submit_known.ensures.result)
          (subst (λ (x : View Done). FinishesFirst front c.in-Some.done x w) c.in-Ok.ensures.view c.finish_first.ensures.part);
    }

pub finish_first-requires-clause-cells : goal.finish_first-requires-clause-cells
finish_first-requires-clause-cells g c = let v = view_of c.args.self.now.seat in
    c.push_back.ensures.items
    ∙ cells_with v.hand c.args.cell (result_of c.in-Ok.job) HAND_ROOM c.args.self.now.cells c.args.self.now.holds.cells_are c.requires.room
    ∙ ap (λ w. buffer (cells_in w.hand) HAND_ROOM) (sym c.in-Ok.ensures.view)

pub invariant_of-self-in_default : goal.invariant_of-self-in_default
invariant_of-self-in_default g c = let v = view_of c.args.self.now.seat in let d = result_of c.in-Ok.job in record {
  holds = record {
    rest = ap (λ w. w.phase) c.in-Ok.ensures.view ∙ c.args.self.now.holds.rest;
    cells_are = c.push_back.ensures.items
        ∙ cells_with v.hand c.args.cell d HAND_ROOM c.args.self.now.cells c.args.self.now.holds.cells_are c.requires.room
        ∙ ap (λ w. buffer (cells_in w.hand) HAND_ROOM) (sym c.in-Ok.ensures.view);
    owed_is = c.in_default.ensures.order ∙ ap (λ l. l ++ d ∷ []) c.args.self.now.holds.owed_is
        ∙ sym (results_with v.hand c.args.cell d) ∙ ap (λ w. results_in w.hand) (sym c.in-Ok.ensures.view);
  };
  blank_given = c.submit_known.ensures.blank;
  room = c.args.self.now.room;
}

pub submit_known-requires-clause-room : goal.submit_known-requires-clause-room
submit_known-requires-clause-room g c =
    owed_below (view_of c.args.self.now.seat).hand c.args.self.now.manager.owed _ c.args.self.now.holds.owed_is c.requires.room
