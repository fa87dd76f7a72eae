use Rattle.mbj_replay.proofs.Runs.{replays-are-of-events}
use Rattle.mbj_replay.proofs.laws.replays_are_of_events.Goals as goal

pub returns : goal.returns
returns c = replays-are-of-events
