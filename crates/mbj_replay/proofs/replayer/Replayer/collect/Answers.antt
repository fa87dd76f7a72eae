use Rattle.mbj_replay.proofs.Commands.{collect-plays}
use Rattle.mbj_replay.proofs.replayer.Replayer.collect.Goals as goal

pub returns-in-Some-clause-playing : goal.returns-in-Some-clause-playing
returns-in-Some-clause-playing g c =
    collect-plays g.jobs c.args.self.now c.collect.new.self c.args.s c.in-Some.done c.requires.0 c.requires.1
    c.in-Some.ensures.collected c.in-Some.ensures.leads
