-- The jobs of the replay are those that it begins with.
use Rattle.mbj_replay.proofs.NewReplayers.{jobs_left}
use Rattle.mbj_replay.proofs.replayer.replay_lines.Given as goal

abbrev pub ghost-play : goal.ghost-play
ghost-play a = jobs_left a.self.now.unposted.items
