use Rattle.std.proofs.Common.{◌≡◌, ◌∙◌, ap, subst}
use Rattle.mbj_types.specs.declared.done.Done.{Done}
use Rattle.mbj_stage.specs.CourseState.{CourseState, stage_of, owed}
use Rattle.mbj_stage.specs.declared.stage.Stage.TheVariants as stage
use Rattle.mbj_stage.proofs.Owing.{owed-finished}
use Rattle.mbj_stage.proofs.course.Course.packet.Goals as goal

pub returns : goal.returns
returns c =
    let Owed : CourseState → Type 0 = λ v. stage_of v ≡ stage.Finished → c.self.inside.job.packet ≡ (owed v).packet in
    c.as_slice.ensures ∙ subst Owed c.self.view_is (λ h. ap (λ (d : Done). d.packet) (owed-finished _ h)) c.requires
