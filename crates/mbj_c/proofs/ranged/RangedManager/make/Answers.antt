-- The jobs are the same, and the one that is submitted is the last of them.
use Rattle.std.proofs.Common.{◌≡◌, ◌∙◌, List, Option, Some, ap, ap₂, subst, sym}
use Rattle.mbj_keys.specs.Sessions.{Known}
use Rattle.mbj_manager.specs.State.{ManagerState}
use Rattle.mbj_c.specs.declared.giving.Call.{Call}
use Rattle.mbj_c.specs.declared.giving.Call.TheVariants as call
use Rattle.mbj_c.specs.Giving.{gone, made_by}
use Rattle.mbj_c.specs.Inside.Ranges.{AreOfJobs}
use Rattle.mbj_c.specs.State.{ranged}
use Rattle.mbj_c.proofs.Ranges.{made-of-jobs, made-ranged}
use Rattle.mbj_c.proofs.ranged.RangedManager.make.Goals as goal

pub invariant_of-self : goal.invariant_of-self
invariant_of-self c =
    let m : ManagerState = c.self.inside.manager in
    let notes : Option (List Known) = c.self.inside.sessions in
    let is : c.submit.new.manager ≡ made_by call.Submit notes m =
    c.submit.ensures.state ∙ ap (λ (n : Option (List Known)). made_by call.Submit n m) (sym c.in-Some.is) in
    record { of_jobs = subst AreOfJobs (sym is) (made-of-jobs call.Submit notes m c.self.invariant.of_jobs); blank = c.self.invariant.blank }

pub returns-in-Some-clause-state : goal.returns-in-Some-clause-state
returns-in-Some-clause-state c =
    let m : ManagerState = c.self.inside.manager in
    let notes : Option (List Known) = c.self.inside.sessions in
    let is : c.submit.new.manager ≡ made_by call.Submit notes m =
    c.submit.ensures.state ∙ ap (λ (n : Option (List Known)). made_by call.Submit n m) (sym c.in-Some.is) in
    ap₂ (λ (x : ManagerState) (n : Option (List Known)). ranged x n) is (ap Some c.submit.ensures.same ∙ sym c.in-Some.is)
    ∙ made-ranged call.Submit notes m c.self.invariant.of_jobs ∙ ap (λ (x : Call). gone x (ranged m notes)) (sym c.in-Submit.is)
    ∙ ap (gone c.args.call) c.self.view_is

pub invariant_of-self-in-None : goal.invariant_of-self-in-None
invariant_of-self-in-None c =
    let m : ManagerState = c.self.inside.manager in
    let notes : Option (List Known) = c.self.inside.sessions in
    let is : c.enter.new.self ≡ made_by call.Submit notes m =
    c.enter.ensures ∙ ap (λ (n : Option (List Known)). made_by call.Submit n m) (sym c.in-None.is) in
    record { of_jobs = subst AreOfJobs (sym is) (made-of-jobs call.Submit notes m c.self.invariant.of_jobs); blank = c.self.invariant.blank }

pub returns-in-None-clause-state : goal.returns-in-None-clause-state
returns-in-None-clause-state c =
    let m : ManagerState = c.self.inside.manager in
    let notes : Option (List Known) = c.self.inside.sessions in
    let is : c.enter.new.self ≡ made_by call.Submit notes m =
    c.enter.ensures ∙ ap (λ (n : Option (List Known)). made_by call.Submit n m) (sym c.in-None.is) in
    ap (λ (x : ManagerState). ranged x notes) is
    ∙ made-ranged call.Submit notes m c.self.invariant.of_jobs ∙ ap (λ (x : Call). gone x (ranged m notes)) (sym c.in-Submit.is)
    ∙ ap (gone c.args.call) c.self.view_is
