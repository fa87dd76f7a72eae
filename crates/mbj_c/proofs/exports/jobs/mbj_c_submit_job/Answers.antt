-- The handle has what the manager's own call left.
use Rattle.std.proofs.Common.{Option, Some, subst, sym}
use Rattle.mbj_c.specs.Filling.{filled_at}
use Rattle.mbj_c.specs.State.{RangedState}
use Rattle.mbj_c.specs.Submitting.{IsSubmitted, IsSubmittedAs, submitted_in}
use Rattle.mbj_c.proofs.Submitting.{submitted-some}
use Rattle.mbj_c.proofs.exports.jobs.mbj_c_submit_job.Goals as goal

pub returns-in-Some : goal.returns-in-Some
returns-in-Some c =
    let raw = c.args.raw.now in
    let before = c.args.out.now in
    let k : RangedState = c.in-Some.manager.value in
    let new : RangedState = c.submit_job-is_given.new.self in
    let flag = c.submit_job-is_given.result in
    let code = c.submit_job-is_given.new.refusal in
    let after = c.submit_job-is_given.new.out in
    let returned = subst (λ (m : RangedState). IsSubmittedAs (filled_at 0 raw m).0 (submitted_in raw m before) m flag code before after new)
    c.deref_mut.ensures.value c.submit_job-is_given.ensures in
    subst (λ (m : Option RangedState). IsSubmitted raw m flag code before after c.put.new.self.manager) c.in-Some.ensures.manager
    (subst (λ (m : Option RangedState). IsSubmitted raw (Some k) flag code before after m) (sym c.put.ensures)
    (submitted-some raw k new flag code before after returned))
