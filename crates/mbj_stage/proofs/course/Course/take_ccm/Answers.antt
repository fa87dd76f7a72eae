-- Packet, nonce and data are as long as those that went out.
use Rattle.std.proofs.Common.{◌≡◌, ◌∙◌, List, ℕ, Some, length, ap, subst, sym}
use Rattle.mbj_stage.specs.declared.stage.Step.TheVariants as step
use Rattle.mbj_stage.specs.Steps.{steps_in}
use Rattle.mbj_stage.specs.Inside.Kept.{IsNextStep}
use Rattle.mbj_stage.specs.CourseState.{CourseState}
use Rattle.mbj_stage.proofs.Schedules.{keyed-later}
use Rattle.mbj_stage.proofs.Soundness.{sound_ccm_taken}
use Rattle.mbj_stage.proofs.course.Course.take_ccm.Goals as goal

pub invariant_of-self : goal.invariant_of-self
invariant_of-self c =
    let f = c.self.inside in
    let left = steps_in f.left in
    let later = steps_in c.later-self-inside.result in
    let next : IsNextStep step.CcmMac left = subst (λ (v : CourseState). IsNextStep step.CcmMac v.left) (sym c.self.view_is) c.requires.next in
    let out : f.out ≡ Some (length c.args.packet.items) = subst (λ (v : CourseState). v.out ≡ Some (length c.args.packet.items)) (sym c.self.view_is) c.requires.length in
    let iv : length c.args.iv.items ≡ f.lengths.iv = subst (λ (v : CourseState). length c.args.iv.items ≡ v.lengths.iv) (sym c.self.view_is) c.requires.iv in
    let aad : length c.args.aad.items ≡ f.lengths.aad = subst (λ (v : CourseState). length c.args.aad.items ≡ v.lengths.aad) (sym c.self.view_is) c.requires.aad in
    record {
      sound = sound_ccm_taken f.job c.from_vec.result c.from_vec-2.result c.from_vec-3.result left later f.out f.lengths c.self.invariant.sound next
          (out ∙ ap (λ (q : List ℕ). Some (length q)) (sym c.from_vec.ensures))
          (ap length c.from_vec-2.ensures ∙ iv) (ap length c.from_vec-3.ensures ∙ aad) c.later-self-inside.ensures;
      keyed = keyed-later f.job left later f.schedule c.self.invariant.keyed c.later-self-inside.ensures;
      wanted = c.self.invariant.wanted;
    }
