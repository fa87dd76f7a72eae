-- The lines that are skipped change nothing.
use Rattle.std.proofs.Common.{◌≡◌, ◌+◌, ◌<◌, ◌^◌, length}
use Rattle.mbj_text.specs.Cut.{kept_lines_from}
use Rattle.mbj_text.proofs.kept_lines.KeptLinesIterator.next.Given as goal

abbrev pub invariant-loop-text : goal.invariant-loop-text
invariant-loop-text l = record {
  bound : l.self-inside.taken + length l.self-inside.left < 2 ^ 32;
  so_far : kept_lines_from (l.self-inside.taken + 1) l.self-inside.left ≡ l.fn.self;
}

abbrev pub decreases-loop-text : goal.decreases-loop-text
decreases-loop-text l = length l.self-inside.left
