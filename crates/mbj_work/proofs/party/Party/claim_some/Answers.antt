-- The last hunt finds none, or as many were made as may be.
use Rattle.std.proofs.Common.{◌≡◌, ℕ, ◌+◌, ap, sym, subst, arith}
use Rattle.mbj_front.specs.Seats.{view_of, cells_of}
use Rattle.mbj_work.specs.Turns.{ClaimsInTurn}
use Rattle.mbj_work.proofs.HandTurns.{claims_on, claims_then, gives_none, one_at_most}
use Rattle.mbj_work.proofs.Keeping.{ends_unfound, keeps_all, keeps_on}
use Rattle.mbj_work.proofs.party.Party.claim_some.Goals as goal

pub loop-left-init : goal.loop-left-init
loop-left-init g c = record {
  front = c.requires.front;
  from = c.requires.cell;
  most = omega arith;
  hand = gives_none (view_of c.args.self.now.seat).hand;
  due = keeps_all (view_of c.args.self.now.seat) c.args.self.now.holds.rest;
}

pub loop-left-preserved : goal.loop-left-preserved
loop-left-preserved g c =
    let was = c.loop-left.invariant in
    let u = view_of c.args.self.now.seat in let v = view_of c.loop-left.self.seat in
    let h = view_of c.hunt.new.self.seat in let w = view_of c.work_on.new.self.seat in
    let worked = c.work_on.result in
    record {
      front = c.work_on.ensures.front;
      from = c.in-Some.ensures.cell;
      most = omega (arith, was.most, one_at_most worked, c.loop-left-test.true, c.from-claimed.ensures);
      hand = subst (λ (n : ℕ). ClaimsInTurn (c.loop-left.claimed + n) u.hand w.hand) (sym c.from-claimed.ensures)
          (claims_then worked c.loop-left.claimed u.hand h.hand w.hand
          (claims_on c.loop-left.claimed u.hand v.hand h.hand was.hand (0, ap (λ x. x.hand) c.in-Some.ensures.part.4)) c.work_on.ensures.hand);
      due = keeps_on u h w (keeps_on u v h was.due c.hunt.ensures.due) c.work_on.ensures.due;
    }

pub returns-in_default-clause-hand : goal.returns-in_default-clause-hand
returns-in_default-clause-hand g c =
    claims_on c.loop-left.claimed (view_of c.args.self.now.seat).hand (view_of c.loop-left.self.seat).hand (view_of c.hunt.new.self.seat).hand
    c.loop-left.invariant.hand (0, ap (λ x. x.hand) c.in_default.ensures.part.3)

pub returns-in_default-clause-due : goal.returns-in_default-clause-due
returns-in_default-clause-due g c =
    keeps_on (view_of c.args.self.now.seat) (view_of c.loop-left.self.seat) (view_of c.hunt.new.self.seat) c.loop-left.invariant.due c.hunt.ensures.due

pub returns-in_default-clause-looks : goal.returns-in_default-clause-looks
returns-in_default-clause-looks g c =
    ends_unfound (cells_of c.args.front.now) c.loop-left.at (view_of c.args.self.now.seat) (view_of c.loop-left.self.seat)
    (view_of c.hunt.new.self.seat) c.loop-left.invariant.due c.in_default.ensures.part
