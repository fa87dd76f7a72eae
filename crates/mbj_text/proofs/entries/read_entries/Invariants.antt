-- The lines before those that are left spell the entries, and what is behind them stays.
use Rattle.std.proofs.Common.{◌≡◌, length}
use Rattle.mbj_text.specs.Inside.Reading.{part_before, part_behind}
use Rattle.mbj_text.proofs.FileLaws.{SoFar}
use Rattle.mbj_text.proofs.entries.read_entries.Given as goal

abbrev pub invariant-loop-number : goal.invariant-loop-number
invariant-loop-number l = record {
  so_far : SoFar (part_before l.end l.initial.lines) (part_before l.end l.lines) l.entries;
  behind : part_behind l.end l.lines ≡ part_behind l.end l.initial.lines;
}

abbrev pub decreases-loop-number : goal.decreases-loop-number
decreases-loop-number l = length l.lines
