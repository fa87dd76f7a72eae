-- Each command is one of the same replay.
use Rattle.mbj_replay.proofs.replayer.Replayer.perform.Given as goal

abbrev pub ghost-post : goal.ghost-post
ghost-post g a = g.jobs

abbrev pub ghost-claim : goal.ghost-claim
ghost-claim g a = g.jobs

abbrev pub ghost-flush : goal.ghost-flush
ghost-flush g a = g.jobs

abbrev pub ghost-collect : goal.ghost-collect
ghost-collect g a = g.jobs
