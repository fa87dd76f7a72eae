use Rattle.std.proofs.Common.{◌∙◌}
use Rattle.mbj_trace.proofs.TraceLines.{kind-told}
use Rattle.mbj_trace.proofs.tracer.Tracer.count.Goals as goal

pub loop-kind-preserved : goal.loop-kind-preserved
loop-kind-preserved c = record {
  manager = c.in_ok-count_kind.ensures.manager ∙ c.loop-kind.invariant.manager;
  lines = kind-told c.loop-kind.self.manager c.count_kind.new.self.manager c.loop-kind.self.lines.items c.count_kind.new.self.lines.items _ c.loop-kind.kind-index _
      c.loop-kind-test.true c.in_ok-count_kind.ensures.manager c.in_ok-count_kind.ensures.lines c.loop-kind.invariant.lines;
}
