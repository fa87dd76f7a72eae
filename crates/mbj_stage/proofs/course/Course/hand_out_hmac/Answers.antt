-- The packet goes out into an entry that ends with the job's digest or HMAC.
use Rattle.std.proofs.Common.{◌≡◌, ◌≢◌, ◌∙◌, length, IsTrue, Some, None, sym, ap, subst, arith}
use Rattle.mbj_types.specs.Auths.{class_of}
use Rattle.mbj_types.specs.Result.{mac_by}
use Rattle.mbj_lane.specs.Rounds.{end_of}
use Rattle.mbj_hmac.specs.Names.{serves_lanes}
use Rattle.mbj_hmac.specs.Rounds.{rest_of, round}
use Rattle.mbj_stage.specs.declared.stage.Stage.TheVariants as stage
use Rattle.mbj_stage.specs.declared.stage.Step.TheVariants as step
use Rattle.mbj_stage.specs.Steps.{stage_at, steps_in}
use Rattle.mbj_stage.specs.Inside.Kept.{IsNextStep}
use Rattle.mbj_stage.specs.CourseState.{CourseState, owed}
use Rattle.mbj_stage.specs.Handing.{handed_out, owed_with, taken_back, without_packet}
use Rattle.mbj_stage.specs.Ends.{hmac_end}
use Rattle.mbj_stage.proofs.Handings.{going, own-back}
use Rattle.mbj_stage.proofs.HandingOut.{mac-is-out, mac-out}
use Rattle.mbj_stage.proofs.Soundness.{sound_out}
use Rattle.mbj_stage.proofs.StagesOf.{auth-first}
use Rattle.mbj_stage.proofs.Hashes.{auth-some, hash-in-lanes}
use Rattle.mbj_stage.proofs.course.Course.hand_out_hmac.Goals as goal

pub invariant_of-self : goal.invariant_of-self
invariant_of-self g c =
    let f = c.self.inside in
    let len : c.len.result ≡ length c.take-packet.result.items = omega (arith, c.len.ensures, c.take-packet.result.ok) in
    let left = steps_in f.left in
    let here : f.out ≡ None = subst (λ (v : CourseState). v.out ≡ None) (sym c.self.view_is) c.requires.here in
    let first : IsNextStep step.Auth left = subst (λ (v : CourseState). IsNextStep step.Auth v.left) (sym c.self.view_is) c.requires.next in
    let serves = subst (λ (v : CourseState). IsTrue (serves_lanes g.H.LaneHash.hashing v.job.auth)) (sym c.self.view_is) c.requires.serves in
    let lane : stage_at f.job left ≢ stage.Now =
    λ now. hash-in-lanes g.H.LaneHash.hashing (class_of f.job.auth) serves (sym (auth-first f.job left first) ∙ now) in
    record {
      sound = sound_out f.job c.take-packet.new.self left f.out f.lengths c.len.result c.self.invariant.sound here (len ∙ ap length c.take-packet.ensures.taken) lane;
      keyed = c.self.invariant.keyed;
      wanted = c.self.invariant.wanted;
    }

pub returns-clause-out : goal.returns-clause-out
returns-clause-out g c =
    let f = c.self.inside in
    let len : c.len.result ≡ length c.take-packet.result.items = omega (arith, c.len.ensures, c.take-packet.result.ok) in
    let first : IsNextStep step.Auth (steps_in f.left) = subst (λ (v : CourseState). IsNextStep step.Auth v.left) (sym c.self.view_is) c.requires.next in
    let out : CourseState = going f.lengths (record f.job { packet = c.take-packet.new.self }) f.tag f.reason (steps_in f.left) (Some c.len.result) in
    subst (λ (v : CourseState). out ≡ handed_out v) c.self.view_is
    (mac-is-out f.lengths f.job c.take-packet.new.self f.tag f.reason (steps_in f.left) f.out c.len.result c.take-packet.ensures.none
    (len ∙ ap length c.take-packet.ensures.taken) first)

pub returns-clause-some : goal.returns-clause-some
returns-clause-some g c =
    let j = c.self.inside.job in
    omega (arith, c.hmac_entry.ensures.rest, auth-some (class_of j.auth) g.H.LaneHash.hashing.block_bytes j.hash_len)

pub returns-clause-owed : goal.returns-clause-owed
returns-clause-owed g c =
    let f = c.self.inside in
    let len : c.len.result ≡ length c.take-packet.result.items = omega (arith, c.len.ensures, c.take-packet.result.ok) in
    let first : IsNextStep step.Auth (steps_in f.left) = subst (λ (v : CourseState). IsNextStep step.Auth v.left) (sym c.self.view_is) c.requires.next in
    let e = hmac_end g.H.LaneHash.hashing (end_of (round g.H.LaneHash.hashing) rest_of c.hmac_entry.result) in
    let out : CourseState = going f.lengths (record f.job { packet = c.take-packet.new.self }) f.tag f.reason (steps_in f.left) (Some c.len.result) in
    subst (λ (v : CourseState). owed_with e out ≡ owed v) c.self.view_is
    (mac-out f.lengths f.job c.take-packet.new.self f.tag f.reason (steps_in f.left) f.out c.len.result e c.take-packet.ensures.none
    (len ∙ ap length c.take-packet.ensures.taken) first (c.hmac_entry.ensures.packet ∙ c.take-packet.ensures.taken)
    (c.hmac_entry.ensures.mac
    ∙ ap (mac_by (class_of f.job.auth) (record f.job { packet = c.take-packet.new.self })) c.take-packet.ensures.taken))

pub returns-clause-job : goal.returns-clause-job
returns-clause-job g c =
    let f = c.self.inside in
    let len : c.len.result ≡ length c.take-packet.result.items = omega (arith, c.len.ensures, c.take-packet.result.ok) in
    let first : IsNextStep step.Auth (steps_in f.left) = subst (λ (v : CourseState). IsNextStep step.Auth v.left) (sym c.self.view_is) c.requires.next in
    let e = hmac_end g.H.LaneHash.hashing (end_of (round g.H.LaneHash.hashing) rest_of c.hmac_entry.result) in
    let out : CourseState = going f.lengths (record f.job { packet = c.take-packet.new.self }) f.tag f.reason (steps_in f.left) (Some c.len.result) in
    subst (λ (v : CourseState). without_packet (taken_back e out).job ≡ without_packet v.job) c.self.view_is
    (own-back (going f.lengths f.job f.tag f.reason (steps_in f.left) f.out) out e step.Auth
    (mac-is-out f.lengths f.job c.take-packet.new.self f.tag f.reason (steps_in f.left) f.out c.len.result c.take-packet.ensures.none
    (len ∙ ap length c.take-packet.ensures.taken) first) first tt)
