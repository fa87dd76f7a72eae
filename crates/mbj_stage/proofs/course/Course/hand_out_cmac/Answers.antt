-- The packet goes out into an entry that ends with the job's CMAC.
use Rattle.std.proofs.Common.{◌≡◌, ◌≢◌, ◌∙◌, List, ℕ, length, Some, None, sym, ap, subst, arith}
use Rattle.mbj_types.specs.Auths.{class_of}
use Rattle.mbj_types.specs.Result.{mac_by}
use Rattle.mbj_types.specs.Verdict.{verdict_at}
use Rattle.mbj_lane.specs.Rounds.{end_of}
use Rattle.mbj_cmac.specs.Rounds.{rest_of, round}
use Rattle.mbj_stage.specs.Steps.{stage_at, steps_in}
use Rattle.mbj_stage.specs.Families.{cmac_stage}
use Rattle.mbj_stage.specs.CourseState.{CourseState, owed, stage_of}
use Rattle.mbj_stage.specs.declared.stage.Stage.TheVariants as stage
use Rattle.mbj_stage.specs.declared.stage.Step.TheVariants as step
use Rattle.mbj_stage.specs.Handing.{handed_out, owed_with, taken_back, without_packet}
use Rattle.mbj_stage.specs.Ends.{cmac_end}
use Rattle.mbj_stage.proofs.Handings.{going, own-back}
use Rattle.mbj_stage.proofs.HandingOut.{IsCmacNext, cmac-next, mac-is-out, mac-out}
use Rattle.mbj_stage.proofs.Soundness.{sound_out}
use Rattle.mbj_stage.proofs.course.Course.hand_out_cmac.Given as given
use Rattle.mbj_stage.proofs.course.Course.hand_out_cmac.Goals as goal

is-next : (g : given.Over) (c : goal.After-cmac_entry-arg-1 g) → IsCmacNext c.self.inside.job (steps_in c.self.inside.left) g.row.N
is-next g c =
    let f = c.self.inside in
    cmac-next f.job (steps_in f.left) f.out f.lengths g.row.N c.requires.rounds c.self.invariant.sound
    (subst (λ (v : CourseState). v.out ≡ None) (sym c.self.view_is) c.requires.here)
    (subst (λ (v : CourseState). stage_of v ≡ cmac_stage g.row.N) (sym c.self.view_is) c.requires.next)

pub invariant_of-self : goal.invariant_of-self
invariant_of-self g c =
    let f = c.self.inside in
    let left = steps_in f.left in
    let len : c.len.result ≡ length c.take-packet.result.items = omega (arith, c.len.ensures, c.take-packet.result.ok) in
    let here : f.out ≡ None = subst (λ (v : CourseState). v.out ≡ None) (sym c.self.view_is) c.requires.here in
    let next : stage_at f.job left ≡ cmac_stage g.row.N =
    subst (λ (v : CourseState). stage_of v ≡ cmac_stage g.row.N) (sym c.self.view_is) c.requires.next in
    let lane : stage_at f.job left ≢ stage.Now = λ now. let e = sym next ∙ now in cc in
    record {
      sound = sound_out f.job c.take-packet.new.self left f.out f.lengths c.len.result c.self.invariant.sound here (len ∙ ap length c.take-packet.ensures.taken) lane;
      keyed = c.self.invariant.keyed;
      wanted = c.self.invariant.wanted;
    }

pub cmac_entry-requires : goal.cmac_entry-requires
cmac_entry-requires g c =
    let f = c.self.inside in
    let is = is-next g c in
    (omega arith, (is.cmac, (is.rounds, subst (λ (q : List ℕ). verdict_at f.job (length q) ≡ None) (sym c.take-packet.ensures.taken) is.accepted)))

pub returns-clause-out : goal.returns-clause-out
returns-clause-out g c =
    let f = c.self.inside in
    let len : c.len.result ≡ length c.take-packet.result.items = omega (arith, c.len.ensures, c.take-packet.result.ok) in
    let out : CourseState = going f.lengths (record f.job { packet = c.take-packet.new.self }) f.tag f.reason (steps_in f.left) (Some c.len.result) in
    subst (λ (v : CourseState). out ≡ handed_out v) c.self.view_is
    (mac-is-out f.lengths f.job c.take-packet.new.self f.tag f.reason (steps_in f.left) f.out c.len.result c.take-packet.ensures.none
    (len ∙ ap length c.take-packet.ensures.taken) (is-next g c.before).first)

pub returns-clause-owed : goal.returns-clause-owed
returns-clause-owed g c =
    let f = c.self.inside in
    let len : c.len.result ≡ length c.take-packet.result.items = omega (arith, c.len.ensures, c.take-packet.result.ok) in
    let is = is-next g c.before in
    let e = cmac_end (end_of round rest_of c.cmac_entry.result) in
    let out : CourseState = going f.lengths (record f.job { packet = c.take-packet.new.self }) f.tag f.reason (steps_in f.left) (Some c.len.result) in
    subst (λ (v : CourseState). owed_with e out ≡ owed v) c.self.view_is
    (mac-out f.lengths f.job c.take-packet.new.self f.tag f.reason (steps_in f.left) f.out c.len.result e c.take-packet.ensures.none
    (len ∙ ap length c.take-packet.ensures.taken) is.first (c.cmac_entry.ensures.packet ∙ c.take-packet.ensures.taken)
    (c.cmac_entry.ensures.mac
    ∙ ap (mac_by (class_of f.job.auth) (record f.job { packet = c.take-packet.new.self })) c.take-packet.ensures.taken))

pub returns-clause-job : goal.returns-clause-job
returns-clause-job g c =
    let f = c.self.inside in
    let len : c.len.result ≡ length c.take-packet.result.items = omega (arith, c.len.ensures, c.take-packet.result.ok) in
    let first = (is-next g c.before).first in
    let e = cmac_end (end_of round rest_of c.cmac_entry.result) in
    let out : CourseState = going f.lengths (record f.job { packet = c.take-packet.new.self }) f.tag f.reason (steps_in f.left) (Some c.len.result) in
    subst (λ (v : CourseState). without_packet (taken_back e out).job ≡ without_packet v.job) c.self.view_is
    (own-back (going f.lengths f.job f.tag f.reason (steps_in f.left) f.out) out e step.Auth
    (mac-is-out f.lengths f.job c.take-packet.new.self f.tag f.reason (steps_in f.left) f.out c.len.result c.take-packet.ensures.none
    (len ∙ ap length c.take-packet.ensures.taken) first) first tt)
