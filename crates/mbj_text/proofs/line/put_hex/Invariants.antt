-- What was written, what waits and the digits of what is left make the text.
use Rattle.std.proofs.Common.{◌++◌}
use Rattle.std.specs.Slice.Iter.{chunks_rest}
use Rattle.hex.specs.Hex.{encode_lower}
use Rattle.mbj_io.specs.Streams.{stream}
use Rattle.mbj_text.specs.Inside.Pieces.{FlowsOn}
use Rattle.mbj_text.proofs.line.put_hex.Given as goal

abbrev pub invariant-loop-chunk : goal.invariant-loop-chunk
invariant-loop-chunk g l = FlowsOn (stream g.O.Sink.held g.O.Sink.faults l.initial.sink l.sink)
    (l.initial.piece ++ encode_lower l.bytes) (l.piece ++ encode_lower (chunks_rest l.chunk-iterator))
