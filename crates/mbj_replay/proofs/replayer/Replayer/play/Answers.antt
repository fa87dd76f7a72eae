use Rattle.std.proofs.Common.{rules, All, subst, sym}
use Rattle.std.specs.Vec.Iter.{into_iter_items}
use Rattle.mbj_replay.specs.Replay.{IsFor}
use Rattle.mbj_replay.specs.Inside.State.{state_of}
use Rattle.mbj_replay.proofs.CommandLines.{all-first, all-rest, one-told}
use Rattle.mbj_replay.proofs.replayer.Replayer.play.Goals as goal

pub perform-told-requires : goal.perform-told-requires
perform-told-requires g c = (
  c.loop-command.invariant.playing,
  (
    c.requires.1.0,
    all-first (IsFor c.loop-command.self.core.submitters c.loop-command.self.core.workers) (into_iter_items c.loop-command.command-iterator)
        (into_iter_items c.next.new.self) c.in-Some.command c.in-Some.ensures.steps.0 c.loop-command.invariant.parties,
  ),
)

pub loop-command-preserved : goal.loop-command-preserved
loop-command-preserved g c = record {
  next = search rules;
  finite = search rules;
  playing = c.perform-told.ensures.playing;
  parties = subst (λ n. All (IsFor n c.perform-told.new.self.core.workers) (into_iter_items c.next.new.self)) (sym c.perform-told.ensures.parties.submitters)
      (subst (λ n. All (IsFor c.loop-command.self.core.submitters n) (into_iter_items c.next.new.self)) (sym c.perform-told.ensures.parties.workers)
      (all-rest (IsFor c.loop-command.self.core.submitters c.loop-command.self.core.workers) (into_iter_items c.loop-command.command-iterator)
      (into_iter_items c.next.new.self) c.in-Some.command c.in-Some.ensures.steps.0 c.loop-command.invariant.parties));
  lines = one-told g.jobs (into_iter_items c.loop-command.command-iterator) (into_iter_items c.next.new.self) c.in-Some.command
      c.loop-command.lines.items _ _ _ (state_of c.loop-command.self) (state_of c.perform-told.new.self)
      c.in-Some.ensures.steps.0 c.perform-told.ensures.told c.in_ok-push_told.ensures c.loop-command.invariant.lines;
}
