-- The step sees a job without its packet, which has no part in the step.
use Rattle.std.proofs.Common.{◌∙◌, [], ◌∷◌, List, ℕ, length, ap}
use Rattle.mbj_types.specs.Verdict.{verdict_at}
use Rattle.mbj_types.specs.declared.job.Job.{Job}
use Rattle.mbj_stage.specs.CourseState.{packet_after, tag_after}
use Rattle.mbj_stage.proofs.Packets.{packet_after-packet, tag_after-packet}
use Rattle.mbj_stage.proofs.Soundness.{own_parts}
use Rattle.mbj_stage.proofs.StagesOf.{stage-packet}
use Rattle.mbj_stage.proofs.course.run_step_in.Goals as goal

pub run_step-requires-clause-own : goal.run_step-requires-clause-own
run_step-requires-clause-own c =
    let j : Job = c.args.job.now in
    own_parts j c.take-packet.new.self j.iv j.aad c.args.step c.requires.own

pub run_step-requires-clause-now : goal.run_step-requires-clause-now
run_step-requires-clause-now c = stage-packet c.args.job.now c.take-packet.new.self (c.args.step ∷ []) ∙ c.requires.now

pub run_step-requires-clause-accepted : goal.run_step-requires-clause-accepted
run_step-requires-clause-accepted c =
    ap (λ (p : List ℕ). verdict_at c.args.job.now (length p)) c.take-packet.ensures.taken ∙ c.requires.accepted

pub returns-clause-job : goal.returns-clause-job
returns-clause-job c =
    let j : Job = c.args.job.now in
    ap (λ (p : List ℕ). record j { packet = p })
    (c.from_vec.ensures ∙ c.run_step.ensures.packet ∙ packet_after-packet c.args.step j c.take-packet.result.items c.take-packet.new.self
    ∙ ap (packet_after c.args.step j) c.take-packet.ensures.taken)

pub returns-clause-len : goal.returns-clause-len
returns-clause-len c = ap length c.from_vec.ensures ∙ c.run_step.ensures.len ∙ ap length c.take-packet.ensures.taken

pub returns-clause-tag : goal.returns-clause-tag
returns-clause-tag c =
    let j : Job = c.args.job.now in
    c.run_step.ensures.tag ∙ tag_after-packet c.args.step j c.take-packet.result.items c.take-packet.new.self c.args.tag.now
    ∙ ap (λ (p : List ℕ). tag_after c.args.step j p c.args.tag.now) c.take-packet.ensures.taken
