-- What was told and the lines of the kinds that are left are those of all kinds.
use Rattle.std.proofs.Common.{◌≡◌, ◌++◌, drop, flat_map}
use Rattle.mbj_types.specs.Kinds.{all_kinds}
use Rattle.mbj_trace.specs.Trace.{count_lines}
use Rattle.mbj_trace.proofs.tracer.Tracer.count.Given as goal

abbrev pub invariant-loop-kind : goal.invariant-loop-kind
invariant-loop-kind l = record {
  manager : l.self.manager ≡ l.initial.self.manager;
  lines : l.self.lines.items ++ flat_map (count_lines l.self.manager.machine) (drop l.kind-index all_kinds)
      ≡ l.initial.self.lines.items ++ flat_map (count_lines l.initial.self.manager.machine) all_kinds;
}
