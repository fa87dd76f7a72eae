-- What was written, what waits and the text of the parts that are left make the text.
use Rattle.std.proofs.Common.{◌++◌, [], drop}
use Rattle.mbj_io.specs.Streams.{stream}
use Rattle.mbj_text.specs.Inside.Pieces.{FlowsOn}
use Rattle.mbj_text.specs.Line.{text_before}
use Rattle.mbj_text.proofs.line.put_parts.Given as goal

abbrev pub invariant-loop-part : goal.invariant-loop-part
invariant-loop-part g l = FlowsOn (stream g.O.Sink.held g.O.Sink.faults l.initial.sink l.sink)
    (l.initial.piece ++ text_before l.parts []) (l.piece ++ text_before (drop l.part-index l.parts) [])
