-- The packet goes out into a slot, where its entry ends with the job's digest or HMAC.
use Rattle.std.proofs.Common.{◌≡◌, ◌≢◌, ◌∙◌, ℕ, List, length, IsTrue, Some, None, sym, ap, subst, arith}
use Rattle.mbj_types.specs.Auths.{class_of}
use Rattle.mbj_types.specs.Result.{mac_by}
use Rattle.mbj_lane.specs.Rounds.{end_of}
use Rattle.mbj_lane.specs.Slots.{IsWritten}
use Rattle.mbj_hmac.specs.Names.{serves_lanes}
use Rattle.mbj_hmac.specs.Rounds.{HmacState, rest_of, round}
use Rattle.mbj_hmac.specs.Slots.{slot_in}
use Rattle.mbj_stage.specs.declared.stage.Stage.TheVariants as stage
use Rattle.mbj_stage.specs.declared.stage.Step.TheVariants as step
use Rattle.mbj_stage.specs.Steps.{stage_at, steps_in}
use Rattle.mbj_stage.specs.Inside.Kept.{IsNextStep}
use Rattle.mbj_stage.specs.CourseState.{CourseState}
use Rattle.mbj_stage.specs.Handing.{handed_out}
use Rattle.mbj_stage.specs.Ends.{GoesOut, begun_over, hmac_end}
use Rattle.mbj_stage.proofs.Handings.{going, own-back}
use Rattle.mbj_stage.proofs.HandingOut.{mac-is-out, mac-out}
use Rattle.mbj_stage.proofs.Soundness.{sound_out}
use Rattle.mbj_stage.proofs.StagesOf.{auth-first}
use Rattle.mbj_stage.proofs.Hashes.{auth-some, hash-in-lanes}
use Rattle.mbj_stage.proofs.course.Course.hand_into_hmac.Goals as goal

pub invariant_of-self : goal.invariant_of-self
invariant_of-self g c =
    let f = c.self.inside in
    let len : c.len.result ≡ length c.take-packet.result.items = omega (arith, c.len.ensures, c.take-packet.result.ok) in
    let left = steps_in f.left in
    let here : f.out ≡ None = subst (λ (v : CourseState). v.out ≡ None) (sym c.self.view_is) c.requires.here in
    let first : IsNextStep step.Auth left = subst (λ (v : CourseState). IsNextStep step.Auth v.left) (sym c.self.view_is) c.requires.next in
    let serves = subst (λ (v : CourseState). IsTrue (serves_lanes g.H.LaneHash.hashing v.job.auth)) (sym c.self.view_is) c.requires.serves in
    let lane : stage_at f.job left ≢ stage.Now =
    λ now. hash-in-lanes g.H.LaneHash.hashing (class_of f.job.auth) serves (sym (auth-first f.job left first) ∙ now) in
    record {
      sound = sound_out f.job c.take-packet.new.self left f.out f.lengths c.len.result c.self.invariant.sound here (len ∙ ap length c.take-packet.ensures.taken) lane;
      keyed = c.self.invariant.keyed;
      wanted = c.self.invariant.wanted;
    }

pub returns-clause-out : goal.returns-clause-out
returns-clause-out g c =
    let f = c.self.inside in
    let len : c.len.result ≡ length c.take-packet.result.items = omega (arith, c.len.ensures, c.take-packet.result.ok) in
    let first : IsNextStep step.Auth (steps_in f.left) = subst (λ (v : CourseState). IsNextStep step.Auth v.left) (sym c.self.view_is) c.requires.next in
    let out : CourseState = going f.lengths (record f.job { packet = c.take-packet.new.self }) f.tag f.reason (steps_in f.left) (Some c.len.result) in
    subst (λ (v : CourseState). out ≡ handed_out v) c.self.view_is
    (mac-is-out f.lengths f.job c.take-packet.new.self f.tag f.reason (steps_in f.left) f.out c.len.result c.take-packet.ensures.none
    (len ∙ ap length c.take-packet.ensures.taken) first)

pub returns-clause-put : goal.returns-clause-put
returns-clause-put g c =
    let f = c.self.inside in
    let h = g.H.LaneHash.hashing in
    let i = c.args.i in
    let old = c.args.slots.now in
    let new = c.put_hmac.new.slots in
    subst (λ (v : CourseState). IsWritten g.H.LaneHash.LANES i (Some (begun_over h v.job v.job.packet)) (slot_in old) (slot_in new)) c.self.view_is
    (subst (λ (p : List ℕ). IsWritten g.H.LaneHash.LANES i (Some (begun_over h f.job p)) (slot_in old) (slot_in new)) c.take-packet.ensures.taken c.put_hmac.ensures.put)

pub returns-clause-given : goal.returns-clause-given
returns-clause-given g c =
    let f = c.self.inside in
    let h = g.H.LaneHash.hashing in
    let left = steps_in f.left in
    let x : List ℕ = c.take-packet.result.items in
    let len : c.len.result ≡ length x = omega (arith, c.len.ensures, c.take-packet.result.ok) in
    let first : IsNextStep step.Auth left = subst (λ (v : CourseState). IsNextStep step.Auth v.left) (sym c.self.view_is) c.requires.next in
    let e : HmacState = begun_over h f.job x in
    let end = hmac_end h (end_of (round h) rest_of e) in
    let before : CourseState = going f.lengths f.job f.tag f.reason left f.out in
    let out : CourseState = going f.lengths (record f.job { packet = c.take-packet.new.self }) f.tag f.reason left (Some c.len.result) in
    let given : GoesOut h e out before = record {
      rest_is = c.put_hmac.ensures.rest;
      some = omega (arith, c.put_hmac.ensures.rest, auth-some (class_of f.job.auth) h.block_bytes f.job.hash_len);
      owed_is = mac-out f.lengths f.job c.take-packet.new.self f.tag f.reason left f.out c.len.result end c.take-packet.ensures.none
          (len ∙ ap length c.take-packet.ensures.taken) first (c.put_hmac.ensures.packet ∙ c.take-packet.ensures.taken)
          (c.put_hmac.ensures.mac
          ∙ ap (mac_by (class_of f.job.auth) (record f.job { packet = c.take-packet.new.self })) c.take-packet.ensures.taken);
      job_is = own-back before out end step.Auth
          (mac-is-out f.lengths f.job c.take-packet.new.self f.tag f.reason left f.out c.len.result c.take-packet.ensures.none
          (len ∙ ap length c.take-packet.ensures.taken) first) first tt;
      length_is = ap Some (len ∙ sym (ap length c.put_hmac.ensures.packet));
    } in
    subst (λ (v : CourseState). GoesOut h (begun_over h v.job v.job.packet) out v) c.self.view_is
    (subst (λ (p : List ℕ). GoesOut h (begun_over h f.job p) out before) c.take-packet.ensures.taken given)
