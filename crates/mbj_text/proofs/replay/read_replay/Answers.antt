-- Each clause follows from the answer being right.
use Rattle.mbj_text.proofs.AnswerLaws.{ok_is_good, line_is_bad, limit_is_over, bad_only, over_only}
use Rattle.mbj_text.proofs.ReplayLaws.{Spelled, replay_count, replay_sessions, lists_of, replay_tells, replay_only}
use Rattle.mbj_text.proofs.replay.read_replay.Goals as goal

pub returns-clause-reads : goal.returns-clause-reads
returns-clause-reads c = ok_is_good _ _ _ c.entries_and_commands.result c.entries_and_commands.ensures

pub returns-clause-bad : goal.returns-clause-bad
returns-clause-bad c = line_is_bad _ _ _ c.entries_and_commands.result c.entries_and_commands.ensures

pub returns-clause-over : goal.returns-clause-over
returns-clause-over c = limit_is_over _ _ _ c.entries_and_commands.result c.entries_and_commands.ensures

pub returns-clause-only_reads : goal.returns-clause-only_reads
returns-clause-only_reads c = replay_only _ _ c.args.bytes.now c.entries_and_commands.result c.entries_and_commands.ensures

pub returns-clause-only_bad : goal.returns-clause-only_bad
returns-clause-only_bad c =
    bad_only lists_of (Spelled _ _ c.args.bytes.now) _ _ _ (replay_tells c.args.submitters c.args.workers c.args.bytes.now) c.entries_and_commands.result c.entries_and_commands.ensures

pub returns-clause-only_over : goal.returns-clause-only_over
returns-clause-only_over c =
    over_only lists_of (Spelled _ _ c.args.bytes.now) _ _ _ (replay_tells c.args.submitters c.args.workers c.args.bytes.now) c.entries_and_commands.result c.entries_and_commands.ensures

pub returns-clause-sessions : goal.returns-clause-sessions
returns-clause-sessions c = replay_sessions _ _ c.args.bytes.now c.entries_and_commands.result c.entries_and_commands.ensures

pub returns-clause-count : goal.returns-clause-count
returns-clause-count c = replay_count _ _ c.args.bytes.now c.entries_and_commands.result c.entries_and_commands.ensures
