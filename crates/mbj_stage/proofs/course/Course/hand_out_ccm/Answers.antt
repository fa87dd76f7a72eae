-- Packet, nonce and data go out into an entry that ends with the job's MAC.
use Rattle.std.proofs.Common.{◌≡◌, ◌≢◌, ◌∙◌, List, ℕ, length, Option, Some, None, sym, ap, ap₂, subst, arith}
use Rattle.std.proofs.lemmas.List.{length-replicate}
use Rattle.mbj_types.specs.declared.job.Cipher.{Cipher}
use Rattle.mbj_types.specs.declared.job.Job.{Job}
use Rattle.mbj_types.specs.declared.kind.Kind.TheVariants as kind
use Rattle.mbj_types.specs.Aes.{aes}
use Rattle.mbj_types.specs.Ccm.{ccm_mac}
use Rattle.mbj_types.specs.Result.{cipher_range}
use Rattle.mbj_types.specs.Rounds.{ccm_rounds, rounds_of}
use Rattle.mbj_types.specs.Verdict.{verdict_at}
use Rattle.mbj_lane.specs.Rounds.{end_of}
use Rattle.mbj_ccm.specs.Rounds.{rest_of, round}
use Rattle.mbj_stage.specs.declared.lengths.Lengths.{Lengths}
use Rattle.mbj_stage.specs.declared.stage.Stage.TheVariants as stage
use Rattle.mbj_stage.specs.declared.stage.Step.TheVariants as step
use Rattle.mbj_stage.specs.Steps.{stage_at, steps_in}
use Rattle.mbj_stage.specs.Keys.{needs_schedule}
use Rattle.mbj_stage.specs.Families.{ccm_lanes, ccm_stage}
use Rattle.mbj_stage.specs.Laws.{each-by_rounds}
use Rattle.mbj_stage.specs.Inside.Kept.{has_texts}
use Rattle.mbj_stage.specs.CourseState.{CourseState, ccm_mac_over, lengths_of, owed, sized, stage_of}
use Rattle.mbj_stage.specs.Handing.{handed_out, owed_with, taken_back, without_packet}
use Rattle.mbj_stage.specs.Ends.{ccm_end}
use Rattle.mbj_stage.proofs.Handings.{IsCcmEnd, going, own-back}
use Rattle.mbj_stage.proofs.Schedules.{next-some}
use Rattle.mbj_stage.proofs.HandingOut.{ccm-is-out, ccm-next, ccm-out}
use Rattle.mbj_stage.proofs.Soundness.{sound_texts_out}
use Rattle.mbj_stage.proofs.course.Course.hand_out_ccm.Goals as goal

-- the rounds by the lengths that the course keeps
rounds-are : (n : ℕ) (l : Lengths) (j : Job) → ccm_rounds l.aad j.cipher_len ≡ rounds_of (ccm_lanes n) (sized l j)
rounds-are n l j =
    let each : ccm_rounds l.aad j.cipher_len ≡ ccm_rounds (length (sized l j).aad) j.cipher_len =
    ap (λ (m : ℕ). ccm_rounds m j.cipher_len) (sym (length-replicate {A = ℕ} l.aad 0)) in
    each-by_rounds (λ k. ccm_rounds l.aad j.cipher_len ≡ rounds_of k (sized l j)) n kind.Ccm128 kind.Ccm192 kind.Ccm256 each each each

pub at_hand-schedule-requires : goal.at_hand-schedule-requires
at_hand-schedule-requires g c =
    let f = c.self.inside in
    let left = steps_in f.left in
    let here : f.out ≡ None = subst (λ (v : CourseState). v.out ≡ None) (sym c.self.view_is) c.requires.here in
    let is = ccm-next f.job left f.out f.lengths g.row.N c.requires.rounds c.self.invariant.sound here
    (subst (λ (v : CourseState). stage_of v ≡ ccm_stage g.row.N) (sym c.self.view_is) c.requires.next) in
    c.self.invariant.keyed (next-some step.CcmMac left is.first) (ap (λ (x : Cipher). needs_schedule x f.job.dir) is.ccm)

pub ccm_entry-requires : goal.ccm_entry-requires
ccm_entry-requires g c =
    let f = c.self.inside in
    let left = steps_in f.left in
    let here : f.out ≡ None = subst (λ (v : CourseState). v.out ≡ None) (sym c.self.view_is) c.requires.here in
    let is = ccm-next f.job left f.out f.lengths g.row.N c.requires.rounds c.self.invariant.sound here
    (subst (λ (v : CourseState). stage_of v ≡ ccm_stage g.row.N) (sym c.self.view_is) c.requires.next) in
    let Accepted : List ℕ → List ℕ → List ℕ → Type 0 = λ iv aad q. verdict_at (record f.job { iv = iv; aad = aad }) (length q) ≡ None in
    let one = subst (λ (q : List ℕ). Accepted f.job.iv f.job.aad q) (sym c.take-packet.ensures.taken) is.accepted in
    let two = subst (λ (iv : List ℕ). Accepted iv f.job.aad c.take-packet.result.items) (sym c.take-iv.ensures.taken) one in
    let three = subst (λ (aad : List ℕ). Accepted c.take-iv.result.items aad c.take-packet.result.items) (sym c.take-aad.ensures.taken) two in
    (omega arith, (c.at_hand-schedule.ensures, (is.ccm, (is.rounds, three))))

pub invariant_of-self : goal.invariant_of-self
invariant_of-self g c =
    let f = c.self.inside in
    let left = steps_in f.left in
    let here : f.out ≡ None = subst (λ (v : CourseState). v.out ≡ None) (sym c.self.view_is) c.requires.here in
    let is = ccm-next f.job left f.out f.lengths g.row.N c.requires.rounds c.self.invariant.sound here
    (subst (λ (v : CourseState). stage_of v ≡ ccm_stage g.row.N) (sym c.self.view_is) c.requires.next) in
    let len : c.len.result ≡ length f.job.packet = omega (arith, c.len.ensures, c.take-packet.result.ok) ∙ ap length c.take-packet.ensures.taken in
    let next : stage_at f.job left ≡ ccm_stage g.row.N =
    subst (λ (v : CourseState). stage_of v ≡ ccm_stage g.row.N) (sym c.self.view_is) c.requires.next in
    let lane : stage_at f.job left ≢ stage.Now = λ now. let e = sym next ∙ now in cc in
    record {
      sound = sound_texts_out f.job c.take-packet.new.self c.take-iv.new.self c.take-aad.new.self left f.out f.lengths c.len.result
          c.self.invariant.sound here len lane is.first;
      keyed = c.self.invariant.keyed;
      wanted = c.self.invariant.wanted;
    }

pub returns-clause-out : goal.returns-clause-out
returns-clause-out g c =
    let f = c.self.inside in
    let left = steps_in f.left in
    let here : f.out ≡ None = subst (λ (v : CourseState). v.out ≡ None) (sym c.self.view_is) c.requires.here in
    let is = ccm-next f.job left f.out f.lengths g.row.N c.requires.rounds c.self.invariant.sound here
    (subst (λ (v : CourseState). stage_of v ≡ ccm_stage g.row.N) (sym c.self.view_is) c.requires.next) in
    let len : c.len.result ≡ length f.job.packet = omega (arith, c.len.ensures, c.take-packet.result.ok) ∙ ap length c.take-packet.ensures.taken in
    let iv : List ℕ = c.take-iv.new.self in
    let aad : List ℕ = c.take-aad.new.self in
    let out : CourseState = going f.lengths (record f.job { packet = c.take-packet.new.self; iv = iv; aad = aad }) f.tag f.reason left (Some c.len.result) in
    let old : CourseState = going f.lengths f.job f.tag f.reason left f.out in
    let went : out ≡ handed_out old =
    ccm-is-out f.lengths f.job c.take-packet.new.self iv aad f.tag f.reason left f.out c.len.result
    c.take-packet.ensures.none c.take-iv.ensures.none c.take-aad.ensures.none len is.first in
    subst (λ (v : CourseState). out ≡ handed_out v) c.self.view_is went

pub returns-clause-rest : goal.returns-clause-rest
returns-clause-rest g c =
    let f = c.self.inside in
    let left = steps_in f.left in
    let here : f.out ≡ None = subst (λ (v : CourseState). v.out ≡ None) (sym c.self.view_is) c.requires.here in
    let is = ccm-next f.job left f.out f.lengths g.row.N c.requires.rounds c.self.invariant.sound here
    (subst (λ (v : CourseState). stage_of v ≡ ccm_stage g.row.N) (sym c.self.view_is) c.requires.next) in
    let lengths : f.lengths ≡ lengths_of f.job =
    c.self.invariant.sound.lengths (next-some step.CcmMac left is.first) (ap (λ (o : Option ℕ). has_texts o left) here) in
    let size : length c.take-aad.result.items ≡ f.lengths.aad =
    ap length c.take-aad.ensures.taken ∙ sym (ap (λ (l : Lengths). l.aad) lengths) in
    subst (λ (v : CourseState). c.ccm_entry.result.rest ≡ rounds_of (ccm_lanes g.row.N) (sized v.lengths v.job)) c.self.view_is
    (c.ccm_entry.ensures.rest ∙ ap (λ (n : ℕ). ccm_rounds n f.job.cipher_len) size ∙ rounds-are g.row.N f.lengths f.job)

pub returns-clause-owed : goal.returns-clause-owed
returns-clause-owed g c =
    let f = c.self.inside in
    let left = steps_in f.left in
    let here : f.out ≡ None = subst (λ (v : CourseState). v.out ≡ None) (sym c.self.view_is) c.requires.here in
    let is = ccm-next f.job left f.out f.lengths g.row.N c.requires.rounds c.self.invariant.sound here
    (subst (λ (v : CourseState). stage_of v ≡ ccm_stage g.row.N) (sym c.self.view_is) c.requires.next) in
    let len : c.len.result ≡ length f.job.packet = omega (arith, c.len.ensures, c.take-packet.result.ok) ∙ ap length c.take-packet.ensures.taken in
    let e = ccm_end (end_of round rest_of c.ccm_entry.result) in
    let iv : List ℕ = c.take-iv.new.self in
    let aad : List ℕ = c.take-aad.new.self in
    let out : CourseState = going f.lengths (record f.job { packet = c.take-packet.new.self; iv = iv; aad = aad }) f.tag f.reason left (Some c.len.result) in
    let old : CourseState = going f.lengths f.job f.tag f.reason left f.out in
    let mac : e.mac ≡ ccm_mac_over f.job f.job.packet =
    c.ccm_entry.ensures.mac
    ∙ ap₂ (λ (x y : List ℕ). ccm_mac (aes f.job.key) x y (cipher_range f.job c.take-packet.result.items) f.job.tag_len)
    c.take-iv.ensures.taken c.take-aad.ensures.taken
    ∙ ap (ccm_mac_over f.job) c.take-packet.ensures.taken in
    let ended : IsCcmEnd f.job e = record {
      packet = c.ccm_entry.ensures.packet ∙ c.take-packet.ensures.taken;
      iv = c.ccm_entry.ensures.iv ∙ c.take-iv.ensures.taken;
      aad = c.ccm_entry.ensures.aad ∙ c.take-aad.ensures.taken;
      mac = mac;
    } in
    subst (λ (v : CourseState). owed_with e out ≡ owed v) c.self.view_is
    (ccm-out f.lengths f.job c.take-packet.new.self iv aad f.tag f.reason left f.out c.len.result e
    c.take-packet.ensures.none c.take-iv.ensures.none c.take-aad.ensures.none len is.first ended)

pub returns-clause-job : goal.returns-clause-job
returns-clause-job g c =
    let f = c.self.inside in
    let left = steps_in f.left in
    let here : f.out ≡ None = subst (λ (v : CourseState). v.out ≡ None) (sym c.self.view_is) c.requires.here in
    let is = ccm-next f.job left f.out f.lengths g.row.N c.requires.rounds c.self.invariant.sound here
    (subst (λ (v : CourseState). stage_of v ≡ ccm_stage g.row.N) (sym c.self.view_is) c.requires.next) in
    let len : c.len.result ≡ length f.job.packet = omega (arith, c.len.ensures, c.take-packet.result.ok) ∙ ap length c.take-packet.ensures.taken in
    let e = ccm_end (end_of round rest_of c.ccm_entry.result) in
    let iv : List ℕ = c.take-iv.new.self in
    let aad : List ℕ = c.take-aad.new.self in
    let out : CourseState = going f.lengths (record f.job { packet = c.take-packet.new.self; iv = iv; aad = aad }) f.tag f.reason left (Some c.len.result) in
    let old : CourseState = going f.lengths f.job f.tag f.reason left f.out in
    let went : out ≡ handed_out old =
    ccm-is-out f.lengths f.job c.take-packet.new.self iv aad f.tag f.reason left f.out c.len.result
    c.take-packet.ensures.none c.take-iv.ensures.none c.take-aad.ensures.none len is.first in
    subst (λ (v : CourseState). without_packet (taken_back e out).job ≡ without_packet v.job) c.self.view_is
    (own-back old out e step.CcmMac went is.first
    (c.ccm_entry.ensures.iv ∙ c.take-iv.ensures.taken, c.ccm_entry.ensures.aad ∙ c.take-aad.ensures.taken))

pub returns-clause-length : goal.returns-clause-length
returns-clause-length g c =
    let f = c.self.inside in
    let len : c.len.result ≡ length f.job.packet = omega (arith, c.len.ensures, c.take-packet.result.ok) ∙ ap length c.take-packet.ensures.taken in
    ap (λ (n : ℕ). Some n) (len ∙ sym (ap length (c.ccm_entry.ensures.packet ∙ c.take-packet.ensures.taken)))

pub returns-clause-texts : goal.returns-clause-texts
returns-clause-texts g c =
    let f = c.self.inside in
    let here : f.out ≡ None = subst (λ (v : CourseState). v.out ≡ None) (sym c.self.view_is) c.requires.here in
    let left = steps_in f.left in
    let is = ccm-next f.job left f.out f.lengths g.row.N c.requires.rounds c.self.invariant.sound here
    (subst (λ (v : CourseState). stage_of v ≡ ccm_stage g.row.N) (sym c.self.view_is) c.requires.next) in
    let lengths : f.lengths ≡ lengths_of f.job =
    c.self.invariant.sound.lengths (next-some step.CcmMac left is.first) (ap (λ (o : Option ℕ). has_texts o left) here) in (
      ap length (c.ccm_entry.ensures.iv ∙ c.take-iv.ensures.taken) ∙ sym (ap (λ (l : Lengths). l.iv) lengths),
      ap length (c.ccm_entry.ensures.aad ∙ c.take-aad.ensures.taken) ∙ sym (ap (λ (l : Lengths). l.aad) lengths),
    )
