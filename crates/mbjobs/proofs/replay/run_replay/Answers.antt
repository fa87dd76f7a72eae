use Rattle.mbjobs.proofs.Scripts.{script-for}
use Rattle.mbjobs.proofs.replay.run_replay.Goals as goal

pub replay_lines-requires-clause-parties : goal.replay_lines-requires-clause-parties
replay_lines-requires-clause-parties g c =
    script-for c.args.submitters c.args.workers _ c.in_ok-_keys.commands.items c.in_ok-_keys.ensures.read.2.commands_are
