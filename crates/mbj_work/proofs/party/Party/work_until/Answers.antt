use Rattle.std.proofs.Common.{◌≡◌, true, sym, subst, arith}
use Rattle.std.specs.Bool.{OnTrue}
use Rattle.mbj_front.specs.Seats.{view_of, cells_of, IsOf}
use Rattle.mbj_work.specs.Hunts.{EndsUnfound}
use Rattle.mbj_work.specs.Parties.{KeepsDue}
use Rattle.mbj_work.specs.declared.party.Party.{Party}
use Rattle.mbj_work.proofs.Endless.{never_none}
use Rattle.mbj_work.proofs.Keeping.{keeps_all, keeps_on, unfound_later}
use Rattle.mbj_work.proofs.party.Party.work_until.Goals as goal
use Rattle.mbj_work.proofs.party.Party.work_until.Goals.{in-None, in-Some+then-turn+then-stopped}

pub loop-init : goal.loop-init
loop-init g c = record {
  next = tt;
  finite = tt;
  front = c.requires;
  from = omega (arith, c.args.front.now.some_submitter, c.args.front.now.submitters_are);
  due = keeps_all (view_of c.args.self.now.seat) c.args.self.now.holds.rest;
}

pub turn_at-turn-requires-clause-front : goal.turn_at-turn-requires-clause-front
turn_at-turn-requires-clause-front g c = c.loop.invariant.front

pub turn_at-turn-requires-clause-cell : goal.turn_at-turn-requires-clause-cell
turn_at-turn-requires-clause-cell g c = c.loop.invariant.from

pub loop-preserved-then-turn : goal.loop-preserved-then-turn
loop-preserved-then-turn g c =
    let v = view_of c.args.self.now.seat in let t = view_of c.turn_at-turn.new.self.seat in
    record {
      next = tt;
      finite = tt;
      front = c.settle_or_pause.ensures.front;
      from = c.turn_at-turn.ensures.cell;
      due = keeps_on v t (view_of c.settle_or_pause.new.self.seat)
          (keeps_on v (view_of c.loop.self.seat) t c.loop.invariant.due c.turn_at-turn.ensures.due) c.settle_or_pause.ensures.due;
    }

pub loop-preserved : goal.loop-preserved
loop-preserved g c = record {
  next = tt;
  finite = tt;
  front = c.turn_at-turn.ensures.front;
  from = c.turn_at-turn.ensures.cell;
  due = keeps_on (view_of c.args.self.now.seat) (view_of c.loop.self.seat) (view_of c.turn_at-turn.new.self.seat) c.loop.invariant.due
      c.turn_at-turn.ensures.due;
}

pub returns-clause-due : goal.returns-clause-due
returns-clause-due g c = let v = view_of c.args.self.now.seat in elim c.match-next.branch [
  | in-None b ↦ subst (λ (p : Party). KeepsDue v (view_of p.seat)) (sym b.self-is) c.loop.invariant.due
  | in-Some+then-turn+then-stopped b ↦ subst (λ (p : Party). KeepsDue v (view_of p.seat)) (sym b.self-is)
      (keeps_on v (view_of c.loop.self.seat) (view_of b.turn_at-turn.new.self.seat) c.loop.invariant.due b.turn_at-turn.ensures.due)
]

pub returns-clause-looks : goal.returns-clause-looks
returns-clause-looks g c =
    let v = view_of c.args.self.now.seat in let cells = cells_of c.args.front.now in elim c.match-next.branch [
      | in-None b ↦ absurd (never_none c.next.result c.next.ensures.steps b.in-None.is)
      | in-Some+then-turn+then-stopped b ↦
          let t = view_of b.turn_at-turn.new.self.seat in
          subst (λ (p : Party). EndsUnfound cells v (view_of p.seat)) (sym b.self-is)
          (unfound_later cells v (view_of c.loop.self.seat) t c.loop.invariant.due
          (subst (λ x. OnTrue x (EndsUnfound cells (view_of c.loop.self.seat) t)) b.if-turn.true b.turn_at-turn.ensures.looks))
    ]
