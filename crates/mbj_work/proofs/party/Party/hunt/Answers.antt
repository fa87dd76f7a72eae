use Rattle.std.proofs.Common.{[], ◌∷◌, refl}
use Rattle.mbj_front.specs.Seats.{view_of, cells_of}
use Rattle.mbj_work.proofs.Keeping.{keeps_on, keeps_looking}
use Rattle.mbj_work.proofs.Rounds.{passes_none, passes_on, finds_none, finds_one}
use Rattle.mbj_work.proofs.party.Party.hunt.Goals as goal

pub loop-i-preserved : goal.loop-i-preserved
loop-i-preserved c = let was = c.loop-i.invariant in record {
  front = c.scan.ensures.front;
  manager = was.manager;
  passed = passes_on c.cells-cells.result c.args.from c.loop-i.i _ c.scan.result (view_of c.args.self.now.seat) (view_of c.loop-i.self.seat) _ was.passed refl c.scan.ensures.view c.if-scan-eq-READY.false;
}

pub returns-then-scan-eq-READY-clause-due : goal.returns-then-scan-eq-READY-clause-due
returns-then-scan-eq-READY-clause-due c =
    let v = view_of c.args.self.now.seat in let w = view_of c.loop-i.self.seat in let u = view_of c.scan.new.seat in
    keeps_on v w u (keeps_looking v w _ c.args.self.now.holds.rest c.loop-i.invariant.passed.3) (keeps_looking w u ((_, _) ∷ []) c.loop-i.self.holds.rest c.scan.ensures.view)

pub returns-clause-due : goal.returns-clause-due
returns-clause-due c =
    keeps_looking (view_of c.args.self.now.seat) (view_of c.loop-i.self.seat) _ c.args.self.now.holds.rest c.loop-i.invariant.passed.3

pub loop-i-init : goal.loop-i-init
loop-i-init c = record {
  front = c.requires.front;
  manager = refl;
  passed = passes_none c.cells-cells.result c.args.from (view_of c.args.self.now.seat);
}

pub returns-clause-part : goal.returns-clause-part
returns-clause-part c =
    finds_none c.cells-cells.result (cells_of c.args.front.now) c.args.from c.loop-i.i (view_of c.args.self.now.seat) (view_of c.loop-i.self.seat)
    c.loop-i.invariant.passed c.cells-cells.ensures.cells c.loop-i.auto.i-end c.loop-i-test.false

pub returns-then-scan-eq-READY-clause-part : goal.returns-then-scan-eq-READY-clause-part
returns-then-scan-eq-READY-clause-part c =
    finds_one c.cells-cells.result (cells_of c.args.front.now) c.args.from c.loop-i.i _ c.scan.result (view_of c.args.self.now.seat) (view_of c.loop-i.self.seat)
    (view_of c.scan.new.seat) c.loop-i.invariant.passed c.cells-cells.ensures.cells c.loop-i-test.true refl c.scan.ensures.view c.if-scan-eq-READY.true
