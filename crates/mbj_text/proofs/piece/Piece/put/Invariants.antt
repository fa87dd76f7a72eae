-- What was written, what waits and what is left make the text.
use Rattle.std.proofs.Common.{◌++◌, length}
use Rattle.mbj_io.specs.Streams.{stream}
use Rattle.mbj_text.specs.Inside.Pieces.{FlowsOn}
use Rattle.mbj_text.proofs.piece.Piece.put.Given as goal

abbrev pub invariant-loop-rest : goal.invariant-loop-rest
invariant-loop-rest g l =
    FlowsOn (stream g.O.Sink.held g.O.Sink.faults l.initial.sink l.sink) (l.initial.self ++ l.text) (l.self ++ l.rest)

abbrev pub decreases-loop-rest : goal.decreases-loop-rest
decreases-loop-rest g l = length l.rest
