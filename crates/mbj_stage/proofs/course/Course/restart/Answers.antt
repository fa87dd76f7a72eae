-- The fields are those of a job with nothing done, whatever the course was before.
use Rattle.std.proofs.Common.{◌≡◌, ◌∙◌, None, ap, subst, sym}
use Rattle.mbj_types.specs.Verdict.{verdict}
use Rattle.mbj_types.specs.declared.job.Job.{Job}
use Rattle.mbj_stage.specs.CourseState.{CourseState}
use Rattle.mbj_stage.specs.declared.lengths.Lengths.{Lengths}
use Rattle.mbj_stage.specs.Inside.Kept.{IsSound}
use Rattle.mbj_stage.specs.Steps.{steps_in}
use Rattle.mbj_stage.proofs.Schedules.{keyed-begun}
use Rattle.mbj_stage.proofs.Soundness.{sound_begun}
use Rattle.mbj_stage.proofs.course.Course.restart.Goals as goal

pub invariant_of-self : goal.invariant_of-self
invariant_of-self c =
    let j : Job = c.self.inside.job in
    let left = steps_in c.steps_by-self-inside.result in
    let reason : verdict j ≡ c.args.reason = ap (λ (v : CourseState). verdict v.job) c.self.view_is ∙ sym c.requires.reason in
    record {
      sound = subst (λ (n : Lengths). IsSound j left None n) (sym c.lengths_of-self-inside.ensures)
          (sound_begun c.args.reason j left reason c.steps_by-self-inside.ensures);
      keyed = keyed-begun c.args.reason j left c.keep_schedule.new.kept c.steps_by-self-inside.ensures c.keep_schedule.ensures.wanted
          c.keep_schedule.ensures.schedule;
      wanted = c.keep_schedule.ensures.wanted;
    }
