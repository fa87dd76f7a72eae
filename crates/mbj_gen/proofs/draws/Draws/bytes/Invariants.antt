use Rattle.mbj_gen.proofs.DrawnBytes.{IsDrawn}
use Rattle.mbj_gen.proofs.draws.Draws.bytes.Given as goal

abbrev pub invariant-loop : goal.invariant-loop
invariant-loop l = IsDrawn l.count l.counter l.fn.self.state l.drawn.items l.self.state
