use Rattle.mbj_io.specs.Streams.{stream}
use Rattle.mbj_text.specs.Line.{line_of}
use Rattle.mbjobs.proofs.Tellings.{told}
use Rattle.mbjobs.proofs.report.tell_line.Goals as goal

pub returns : goal.returns
returns g c =
    told c.write_line.result (stream g.E.Sink.held g.E.Sink.faults c.args.err.now c.write_line.new.sink) (line_of c.args.parts.now) c.write_line.ensures
