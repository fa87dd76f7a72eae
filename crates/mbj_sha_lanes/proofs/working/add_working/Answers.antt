use Rattle.std.proofs.Common.{ap, ◌∙◌}
use Rattle.mbj_sha_lanes.specs.Sha2.{add_state, working_lane}
use Rattle.mbj_sha_lanes.proofs.EightWords.{eight_written}
use Rattle.mbj_sha_lanes.proofs.working.add_working.Goals as goal

pub returns : goal.returns
returns g c i lt =
    let lane = g.W.Words.lane in
    eight_written lane c.args.states.now _ _ _ _ _ _ _ _ i c.requires
    ∙ rw (
      c.plus.ensures i lt,
      c.plus-2.ensures i lt,
      c.plus-3.ensures i lt,
      c.plus-4.ensures i lt,
      c.plus-5.ensures i lt,
      c.plus-6.ensures i lt,
      c.plus-7.ensures i lt,
      c.plus-8.ensures i lt,
    ) (ap (λ h. add_state g.W.Words.width h (working_lane lane c.args.v i)) (c.working_of-start.ensures i))
