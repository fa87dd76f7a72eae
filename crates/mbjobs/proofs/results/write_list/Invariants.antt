-- What is written so far are the lines of the results before the next one.
use Rattle.std.proofs.Common.{drop}
use Rattle.mbj_io.specs.Streams.{stream}
use Rattle.mbj_text.specs.Inside.Pieces.{FlowsOn}
use Rattle.mbj_text.specs.Line.{text, text_from}
use Rattle.mbjobs.proofs.results.write_list.Given as goal

abbrev pub invariant-loop-number : goal.invariant-loop-number
invariant-loop-number g l = FlowsOn (stream g.O.Sink.held g.O.Sink.faults l.initial.out l.out)
    (text l.fn.results) (text_from l.number (drop l.number l.fn.results))
