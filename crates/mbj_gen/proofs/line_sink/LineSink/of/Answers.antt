-- A line that leaves room is written.
use Rattle.std.proofs.Common.{take}
use Rattle.mbj_text.specs.Line.{done_line}
use Rattle.mbj_gen.specs.declared.line_sink.TheConstants.{LINE_ROOM}
use Rattle.mbj_gen.proofs.ResultLines.{room_is_left}
use Rattle.mbj_gen.proofs.line_sink.LineSink.of.Goals as goal

pub unreachable-requires : goal.unreachable-requires
unreachable-requires c =
    let sink = c.write_done.new.sink in
    let failed = c.in-Err.ensures in
    room_is_left LINE_ROOM sink.faults (take sink.len sink.bytes) (done_line c.args.number c.args.done.now) c.requires
    sink.fails_when_full failed.failed failed.front
