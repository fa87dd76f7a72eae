-- The packet is as long as the one that went out, and IV and data never did.
use Rattle.std.proofs.Common.{◌≡◌, ◌∙◌, List, ℕ, Some, length, ap, subst, sym}
use Rattle.mbj_stage.specs.declared.stage.Step.TheVariants as step
use Rattle.mbj_stage.specs.Steps.{steps_in}
use Rattle.mbj_stage.specs.Inside.Kept.{IsNextStep}
use Rattle.mbj_stage.specs.CourseState.{CourseState}
use Rattle.mbj_stage.proofs.Schedules.{keyed-later}
use Rattle.mbj_stage.proofs.Soundness.{sound_taken}
use Rattle.mbj_stage.proofs.course.Course.take_text.Goals as goal

pub invariant_of-self : goal.invariant_of-self
invariant_of-self c =
    let f = c.self.inside in
    let next : IsNextStep step.Cipher (steps_in f.left) = subst (λ (v : CourseState). IsNextStep step.Cipher v.left) (sym c.self.view_is) c.requires.next in
    let out : f.out ≡ Some (length c.args.packet.items) = subst (λ (v : CourseState). v.out ≡ Some (length c.args.packet.items)) (sym c.self.view_is) c.requires.length in
    record {
      sound = sound_taken f.job c.from_vec.result step.Cipher (steps_in f.left) (steps_in c.later-self-inside.result) f.out f.lengths c.self.invariant.sound
          next tt (out ∙ ap (λ (q : List ℕ). Some (length q)) (sym c.from_vec.ensures)) c.later-self-inside.ensures;
      keyed = keyed-later f.job (steps_in f.left) (steps_in c.later-self-inside.result) f.schedule c.self.invariant.keyed c.later-self-inside.ensures;
      wanted = c.self.invariant.wanted;
    }
