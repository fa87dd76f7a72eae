-- The hash range is inside, the states have their length, and the end is the digest or the HMAC of the job.
use Rattle.std.proofs.Common.{◌≡◌, ◌∙◌, List, ℕ, ◌*◌, length, subst, ap, sym}
use Rattle.std.specs.Prelude.{IfSome, Some}
use Rattle.mbj_args.proofs.Accepted.{accepted}
use Rattle.mbj_types.specs.declared.job.Job.{Job}
use Rattle.mbj_types.specs.Auths.{class_of, states_hash_of}
use Rattle.mbj_types.specs.Result.{hash_range, mac_by}
use Rattle.mbj_lane.specs.Rounds.{end_of}
use Rattle.mbj_lane.specs.Slots.{IsWritten}
use Rattle.mbj_hmac.specs.Begun.{Begins, begun}
use Rattle.mbj_hmac.specs.Rounds.{HmacState, rest_of, round}
use Rattle.mbj_hmac.specs.Slots.{slot_in}
use Rattle.mbj_stage.specs.Ends.{begun_over}
use Rattle.mbj_stage.proofs.Hashes.{served-length, served-range, value_is_mac}
use Rattle.mbj_stage.proofs.entries.put_hmac.Goals as goal

pub put_job-requires-clause-states : goal.put_job-requires-clause-states
put_job-requires-clause-states g c =
    let j : Job = c.args.job.now in
    let OfKey : List ℕ → Type 0 = λ key. IfSome (states_hash_of j.auth) (λ k. length key ≡ 2 * k.state_bytes) in
    subst OfKey (sym c.as_slice-secret.ensures)
    (served-length (class_of j.auth) (length j.auth_key) (accepted j (length c.args.packet.items) c.requires.accepted).auth_key)

pub put_job-requires-clause-range : goal.put_job-requires-clause-range
put_job-requires-clause-range g c =
    let j : Job = c.args.job.now in
    (accepted j (length c.args.packet.items) c.requires.accepted).hash_range (served-range g.H.LaneHash.hashing (class_of j.auth) c.requires.serves)

pub returns-clause-put : goal.returns-clause-put
returns-clause-put g c =
    let j : Job = c.args.job.now in
    subst (λ (key : List ℕ). IsWritten g.H.LaneHash.LANES c.args.i (Some (begun g.H.LaneHash.hashing (class_of j.auth) key c.args.packet.items j.hash_off j.hash_len))
    (slot_in c.args.slots.now) (slot_in c.put_job.new.self)) c.as_slice-secret.ensures c.put_job.ensures.put

pub returns-clause-rest : goal.returns-clause-rest
returns-clause-rest g c =
    let j : Job = c.args.job.now in
    let h = g.H.LaneHash.hashing in
    let p : List ℕ = c.args.packet.items in
    let begins : Begins h (class_of j.auth) j.auth_key p j.hash_off j.hash_len (begun_over h j p) =
    subst (λ (key : List ℕ). Begins h (class_of j.auth) key p j.hash_off j.hash_len (begun h (class_of j.auth) key p j.hash_off j.hash_len)) c.as_slice-secret.ensures c.put_job.ensures.begins in
    begins.rest

pub returns-clause-packet : goal.returns-clause-packet
returns-clause-packet g c =
    let j : Job = c.args.job.now in
    let h = g.H.LaneHash.hashing in
    let p : List ℕ = c.args.packet.items in
    let begins : Begins h (class_of j.auth) j.auth_key p j.hash_off j.hash_len (begun_over h j p) =
    subst (λ (key : List ℕ). Begins h (class_of j.auth) key p j.hash_off j.hash_len (begun h (class_of j.auth) key p j.hash_off j.hash_len)) c.as_slice-secret.ensures c.put_job.ensures.begins in
    begins.packet_is

pub returns-clause-mac : goal.returns-clause-mac
returns-clause-mac g c =
    let j : Job = c.args.job.now in
    let h = g.H.LaneHash.hashing in
    let p : List ℕ = c.args.packet.items in
    let begins : Begins h (class_of j.auth) j.auth_key p j.hash_off j.hash_len (begun_over h j p) =
    subst (λ (key : List ℕ). Begins h (class_of j.auth) key p j.hash_off j.hash_len (begun h (class_of j.auth) key p j.hash_off j.hash_len)) c.as_slice-secret.ensures c.put_job.ensures.begins in
    begins.value ∙ value_is_mac h (class_of j.auth) j p c.requires.serves
