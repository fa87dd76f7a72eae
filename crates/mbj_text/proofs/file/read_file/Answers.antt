-- Each clause follows from the answer being right.
use Rattle.mbj_text.specs.Cut.{kept_lines}
use Rattle.mbj_text.proofs.AnswerLaws.{ok_is_good, line_is_bad, limit_is_over, bad_only, over_only}
use Rattle.mbj_text.proofs.FileLaws.{Spelled, file_count, file_sessions, file_only, lines_tell, lists_of}
use Rattle.mbj_text.proofs.file.read_file.Goals as goal

pub returns-clause-reads : goal.returns-clause-reads
returns-clause-reads c = ok_is_good _ _ _ c.entries_of.result c.entries_of.ensures

pub returns-clause-bad : goal.returns-clause-bad
returns-clause-bad c = line_is_bad _ _ _ c.entries_of.result c.entries_of.ensures

pub returns-clause-over : goal.returns-clause-over
returns-clause-over c = limit_is_over _ _ _ c.entries_of.result c.entries_of.ensures

pub returns-clause-only_reads : goal.returns-clause-only_reads
returns-clause-only_reads c = file_only c.args.bytes.now c.entries_of.result c.entries_of.ensures

pub returns-clause-only_bad : goal.returns-clause-only_bad
returns-clause-only_bad c =
    bad_only lists_of (Spelled c.args.bytes.now) _ _ _ (lines_tell (kept_lines c.args.bytes.now)) c.entries_of.result c.entries_of.ensures

pub returns-clause-only_over : goal.returns-clause-only_over
returns-clause-only_over c =
    over_only lists_of (Spelled c.args.bytes.now) _ _ _ (lines_tell (kept_lines c.args.bytes.now)) c.entries_of.result c.entries_of.ensures

pub returns-clause-sessions : goal.returns-clause-sessions
returns-clause-sessions c = file_sessions c.args.bytes.now c.entries_of.result c.entries_of.ensures

pub returns-clause-count : goal.returns-clause-count
returns-clause-count c = file_count c.args.bytes.now c.entries_of.result c.entries_of.ensures
