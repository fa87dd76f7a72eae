-- Each arm does the first step, and leaves what follows it.
use Rattle.std.proofs.Common.{◌≡◌, ◌≢◌, ◌∙◌, [], ◌∷◌, Option, List, ℕ, None, length, refl, ap, sym, subst}
use Rattle.std.specs.List.{All}
use Rattle.std.proofs.lemmas.List.Elements.{All-head}
use Rattle.mbj_types.specs.declared.job.Job.{Job}
use Rattle.mbj_stage.specs.declared.lengths.Lengths.{Lengths}
use Rattle.mbj_stage.specs.declared.stage.Stage.TheVariants as stage
use Rattle.mbj_stage.specs.declared.stage.Step.{Step}
use Rattle.mbj_stage.specs.declared.stage.Steps.{Steps}
use Rattle.mbj_stage.specs.Steps.{stage_at, steps_in}
use Rattle.mbj_stage.specs.Keys.{keeps_schedule}
use Rattle.mbj_stage.specs.Inside.Kept.{IsKept, IsStepOf, IsSound, has_texts, packet_length}
use Rattle.mbj_stage.specs.CourseState.{CourseState, packet_after, ran, stage_of}
use Rattle.mbj_stage.proofs.HandingOut.{here-accepted}
use Rattle.mbj_stage.proofs.Handings.{going}
use Rattle.mbj_stage.proofs.StagesOf.{stage-first}
use Rattle.mbj_stage.proofs.Soundness.{sound_finished, sound_next}
use Rattle.mbj_stage.proofs.Owing.{ran-step}
use Rattle.mbj_stage.proofs.course.Course.run.Goals as goal

some-left : (left : Steps) (s : Step) (later : List Step) → steps_in left ≡ s ∷ later → steps_in left ≢ []
some-left left s later is none = let bad : s ∷ later ≡ [] = sym is ∙ none in cc

pub run_step_in-requires-clause-keyed : goal.run_step_in-requires-clause-keyed
run_step_in-requires-clause-keyed c ciphers = c.self.invariant.keyed (some-left c.self.inside.left c.in-One.step [] (ap steps_in c.in-One.is)) ciphers

pub run_step_in-requires-in-Two-clause-keyed : goal.run_step_in-requires-in-Two-clause-keyed
run_step_in-requires-in-Two-clause-keyed c ciphers =
    c.self.invariant.keyed (some-left c.self.inside.left c.in-Two.step (c.in-Two.later ∷ []) (ap steps_in c.in-Two.is)) ciphers

pub run_step_in-requires-clause-own : goal.run_step_in-requires-clause-own
run_step_in-requires-clause-own c =
    let j : Job = c.self.inside.job in
    let Own : Steps → Type 0 = λ l. All (IsStepOf j) (steps_in l) in
    All-head (IsStepOf j) c.in-One.step [] (subst Own c.in-One.is c.self.invariant.sound.own)

pub run_step_in-requires-in-Two-clause-own : goal.run_step_in-requires-in-Two-clause-own
run_step_in-requires-in-Two-clause-own c =
    let j : Job = c.self.inside.job in
    let Own : Steps → Type 0 = λ l. All (IsStepOf j) (steps_in l) in
    All-head (IsStepOf j) c.in-Two.step (c.in-Two.later ∷ []) (subst Own c.in-Two.is c.self.invariant.sound.own)

pub run_step_in-requires-clause-now : goal.run_step_in-requires-clause-now
run_step_in-requires-clause-now c =
    let j : Job = c.self.inside.job in
    let Now : CourseState → Type 0 = λ v. stage_of v ≡ stage.Now in
    ap (λ (l : Steps). stage_at j (steps_in l)) (sym c.in-One.is) ∙ subst Now (sym c.self.view_is) c.requires

pub run_step_in-requires-in-Two-clause-now : goal.run_step_in-requires-in-Two-clause-now
run_step_in-requires-in-Two-clause-now c =
    let j : Job = c.self.inside.job in
    let Now : CourseState → Type 0 = λ v. stage_of v ≡ stage.Now in
    sym (stage-first j c.in-Two.step (c.in-Two.later ∷ []))
    ∙ ap (λ (l : Steps). stage_at j (steps_in l)) (sym c.in-Two.is)
    ∙ subst Now (sym c.self.view_is) c.requires

pub run_step_in-requires-clause-accepted : goal.run_step_in-requires-clause-accepted
run_step_in-requires-clause-accepted c =
    let f = c.self.inside in
    let Now : CourseState → Type 0 = λ v. stage_of v ≡ stage.Now in
    here-accepted f.job (steps_in f.left) f.out f.lengths c.self.invariant.sound (c.self.invariant.sound.here (subst Now (sym c.self.view_is) c.requires))
    (some-left f.left c.in-One.step [] (ap steps_in c.in-One.is))

pub run_step_in-requires-in-Two-clause-accepted : goal.run_step_in-requires-in-Two-clause-accepted
run_step_in-requires-in-Two-clause-accepted c =
    let f = c.self.inside in
    let Now : CourseState → Type 0 = λ v. stage_of v ≡ stage.Now in
    here-accepted f.job (steps_in f.left) f.out f.lengths c.self.invariant.sound (c.self.invariant.sound.here (subst Now (sym c.self.view_is) c.requires))
    (some-left f.left c.in-Two.step (c.in-Two.later ∷ []) (ap steps_in c.in-Two.is))

pub invariant_of-self : goal.invariant_of-self
invariant_of-self c = record {
  sound = sound_finished c.run_step_in.new.job [] c.self.inside.out c.self.inside.lengths refl;
  keyed = λ some _. absurd (some refl);
  wanted = c.self.invariant.wanted ∙ ap (λ (j : Job). keeps_schedule c.self.inside.reason j.cipher j.dir) (sym c.run_step_in.ensures.job);
}

pub invariant_of-self-in-Two : goal.invariant_of-self-in-Two
invariant_of-self-in-Two c =
    let f = c.self.inside in
    let j : Job = f.job in
    let n : Lengths = f.lengths in
    let later : List Step = c.in-Two.later ∷ [] in
    let some = some-left f.left c.in-Two.step later (ap steps_in c.in-Two.is) in
    let Now : CourseState → Type 0 = λ v. stage_of v ≡ stage.Now in
    let here : f.out ≡ None = c.self.invariant.sound.here (subst Now (sym c.self.view_is) c.requires) in
    let Sound : Steps → Type 0 = λ l. IsSound j (steps_in l) f.out n in
    let q : List ℕ = packet_after c.in-Two.step j j.packet in
    let len : length q ≡ packet_length f.out j.packet =
    ap (λ (x : Job). length x.packet) (sym c.run_step_in-in-Two.ensures.job) ∙ c.run_step_in-in-Two.ensures.len
    ∙ ap (λ (o : Option ℕ). packet_length o j.packet) (sym here) in
    let sound : IsSound (record j { packet = q }) later None n =
    sound_next j q c.in-Two.step later f.out n (subst Sound c.in-Two.is c.self.invariant.sound)
    (c.self.invariant.sound.lengths some (ap (λ (o : Option ℕ). has_texts o (steps_in f.left)) here)) len in
    let kept : IsKept (record j { packet = q }) f.reason later f.out n f.schedule = record {
      sound = subst (λ (o : Option ℕ). IsSound (record j { packet = q }) later o n) (sym here) sound;
      keyed = λ _ ciphers. c.self.invariant.keyed some ciphers;
      wanted = c.self.invariant.wanted;
    } in
    subst (λ (x : Job). IsKept x f.reason later f.out n f.schedule) (sym c.run_step_in-in-Two.ensures.job) kept

pub returns-in-One : goal.returns-in-One
returns-in-One c =
    let f = c.self.inside in
    let after : CourseState = going f.lengths c.run_step_in.new.job c.run_step_in.new.tag f.reason [] f.out in
    let Ran : CourseState → Type 0 = λ v. after ≡ ran v in
    subst Ran c.self.view_is
    (ran-step f.lengths f.job c.run_step_in.new.job f.tag c.run_step_in.new.tag f.reason c.in-One.step [] (steps_in f.left) f.out
    (ap steps_in c.in-One.is) c.run_step_in.ensures.job c.run_step_in.ensures.tag)

pub returns-in-Two : goal.returns-in-Two
returns-in-Two c =
    let f = c.self.inside in
    let later : List Step = c.in-Two.later ∷ [] in
    let after : CourseState = going f.lengths c.run_step_in-in-Two.new.job c.run_step_in-in-Two.new.tag f.reason later f.out in
    let Ran : CourseState → Type 0 = λ v. after ≡ ran v in
    subst Ran c.self.view_is
    (ran-step f.lengths f.job c.run_step_in-in-Two.new.job f.tag c.run_step_in-in-Two.new.tag f.reason c.in-Two.step later (steps_in f.left) f.out
    (ap steps_in c.in-Two.is) c.run_step_in-in-Two.ensures.job c.run_step_in-in-Two.ensures.tag)
