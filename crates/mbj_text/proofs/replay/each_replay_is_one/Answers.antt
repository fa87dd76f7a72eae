-- The laws of files of replays.
use Rattle.mbj_text.proofs.ReplayLaws.{one_of_three}
use Rattle.mbj_text.proofs.replay.each_replay_is_one.Goals as goal

pub returns : goal.returns
returns c = one_of_three
