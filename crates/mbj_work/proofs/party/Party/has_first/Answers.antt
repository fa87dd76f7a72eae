-- It looks at one cell at most.
use Rattle.std.proofs.Common.{[], ◌∷◌}
use Rattle.mbj_front.specs.Seats.{view_of}
use Rattle.mbj_work.proofs.Keeping.{keeps_all, keeps_looking}
use Rattle.mbj_work.proofs.party.Party.has_first.Goals as goal

pub returns-then-eq-clause-due : goal.returns-then-eq-clause-due
returns-then-eq-clause-due c = keeps_all (view_of c.args.self.now.seat) c.args.self.now.holds.rest

pub returns-else-eq-clause-due : goal.returns-else-eq-clause-due
returns-else-eq-clause-due c =
    keeps_looking (view_of c.args.self.now.seat) (view_of c.scan.new.seat) ((_, c.scan.result) ∷ []) c.args.self.now.holds.rest c.scan.ensures.view
