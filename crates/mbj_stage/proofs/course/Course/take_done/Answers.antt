use Rattle.std.proofs.Common.{◌≡◌, ◌∙◌, List, ℕ, ap, ap₂, subst, sym}
use Rattle.mbj_types.specs.declared.done.Done.{Done}
use Rattle.mbj_types.specs.declared.done.Status.{Status}
use Rattle.mbj_stage.specs.CourseState.{CourseState, status_of, stage_of, owed}
use Rattle.mbj_stage.specs.declared.stage.Stage.TheVariants as stage
use Rattle.mbj_stage.proofs.Owing.{owed-finished}
use Rattle.mbj_stage.specs.Steps.{steps_in}
use Rattle.mbj_stage.proofs.Soundness.{sound_finished}
use Rattle.mbj_stage.proofs.StagesOf.{finished-left}
use Rattle.mbj_stage.proofs.course.Course.take_done.Goals as goal

-- the job is without its packet then, and no step is left
pub invariant_of-self : goal.invariant_of-self
invariant_of-self c =
    let f = c.self.inside in
    let left = steps_in f.left in
    let nothing = finished-left f.job left (subst (λ (v : CourseState). stage_of v ≡ stage.Finished) (sym c.self.view_is) c.requires) in
    record {
      sound = sound_finished (record f.job { packet = c.take.new.self }) left f.out f.lengths nothing;
      keyed = c.self.invariant.keyed;
      wanted = c.self.invariant.wanted;
    }

pub returns : goal.returns
returns c =
    let f = c.self.inside in
    let there : Done = record { status = status_of f.reason; packet = f.job.packet; tag = f.tag } in
    let Owed : CourseState → Type 0 = λ v. stage_of v ≡ stage.Finished → there ≡ owed v in
    ap₂ (λ (s : Status) (p : List ℕ). record { status = s; packet = p; tag = c.replace.result }) c.status.ensures (c.from_vec.ensures ∙ c.take.ensures.taken)
    ∙ ap (λ (t : List ℕ). record { status = status_of f.reason; packet = f.job.packet; tag = t }) c.replace.ensures.value
    ∙ subst Owed c.self.view_is (λ h. owed-finished _ h) c.requires
