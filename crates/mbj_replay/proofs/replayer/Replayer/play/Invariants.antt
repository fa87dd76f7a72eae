-- What was told and the lines of the commands that are left are those of all commands.
use Rattle.std.proofs.Common.{◌≡◌, ◌++◌, All}
use Rattle.std.specs.Vec.Iter.{into_iter_items}
use Rattle.mbj_replay.specs.Replay.{IsFor, replayed}
use Rattle.mbj_replay.specs.Inside.State.{IsPlaying, state_of}
use Rattle.mbj_replay.proofs.replayer.Replayer.play.Given as goal

abbrev pub ghost-perform : goal.ghost-perform
ghost-perform g a = g.jobs

abbrev pub invariant-loop-command : goal.invariant-loop-command
invariant-loop-command g l = record {
  next : (goal.iterator-loop-command g).can_next l.command-iterator;
  finite : (goal.iterator-loop-command g).is_finite l.command-iterator;
  playing : IsPlaying g.jobs l.self;
  parties : All (IsFor l.self.core.submitters l.self.core.workers) (into_iter_items l.command-iterator);
  lines : l.lines.items ++ (replayed g.jobs (into_iter_items l.command-iterator) (state_of l.self)).0
      ≡ (replayed g.jobs l.fn.commands.items (state_of l.initial.self)).0;
}
