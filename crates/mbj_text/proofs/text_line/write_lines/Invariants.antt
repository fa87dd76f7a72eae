-- The lines before this one are written.
use Rattle.std.proofs.Common.{drop, flat_map}
use Rattle.mbj_io.specs.Streams.{stream}
use Rattle.mbj_text.specs.Inside.Pieces.{FlowsOn}
use Rattle.mbj_text.proofs.text_line.write_lines.Given as goal

abbrev pub invariant-loop-line : goal.invariant-loop-line
invariant-loop-line g l = FlowsOn (stream g.O.Sink.held g.O.Sink.faults l.initial.sink l.sink)
    (flat_map g.L.TextLine.text l.lines) (flat_map g.L.TextLine.text (drop l.line-index l.lines))
