-- The hash range is inside, and the digest at the end is the digest of it or the HMAC over it, under the key or from the states.
use Rattle.std.proofs.Common.{◌≡◌, ◌∙◌, List, ℕ, ◌*◌, length, subst, ap, sym}
use Rattle.std.specs.Prelude.{IfSome}
use Rattle.mbj_args.proofs.Accepted.{accepted}
use Rattle.mbj_types.specs.declared.job.Job.{Job}
use Rattle.mbj_types.specs.declared.class.AuthClass.{AuthClass}
use Rattle.mbj_types.specs.Auths.{class_of, hash_of, states_hash_of}
use Rattle.mbj_types.specs.Hmac.{hmac}
use Rattle.mbj_types.specs.States.{hmac_from_states}
use Rattle.mbj_types.specs.Result.{hash_range}
use Rattle.mbj_types.specs.Rounds.{auth_rounds}
use Rattle.mbj_types.specs.Verdict.{has_hash_range}
use Rattle.mbj_lane.specs.Rounds.{end_of}
use Rattle.mbj_hmac.specs.Rounds.{HmacState, rest_of, round}
use Rattle.mbj_stage.proofs.Hashes.{keyed-served, plain-served, states-length, states-served, keyed_is_mac, plain_is_mac, states_is_mac}
use Rattle.mbj_stage.proofs.entries.hmac_entry.Goals as goal

-- ---- an HMAC

pub new-requires-clause-auth : goal.new-requires-clause-auth
new-requires-clause-auth g c =
    keyed-served g.H.LaneHash.hashing (class_of c.args.job.now.auth) c.in-Hmac.field-0 (sym c.in-Hmac.ensures) c.requires.serves

pub new-requires-clause-range : goal.new-requires-clause-range
new-requires-clause-range g c =
    (accepted c.args.job.now (length c.args.packet.items) c.requires.accepted).hash_range (ap has_hash_range (sym c.in-Hmac.ensures))

pub returns-in-Hmac-clause-rest : goal.returns-in-Hmac-clause-rest
returns-in-Hmac-clause-rest g c =
    let j : Job = c.args.job.now in
    c.new.ensures.rest ∙ ap (λ (a : AuthClass). auth_rounds a g.H.LaneHash.hashing.block_bytes j.hash_len) c.in-Hmac.ensures

pub returns-in-Hmac-clause-mac : goal.returns-in-Hmac-clause-mac
returns-in-Hmac-clause-mac g c =
    let j : Job = c.args.job.now in
    let h = g.H.LaneHash.hashing in
    let p : List ℕ = c.args.packet.items in
    let end : HmacState = end_of (round h) rest_of c.new.result in
    let OfKey : List ℕ → Type 0 = λ key. IfSome (hash_of j.auth) (λ x. h.digest end.hash end.chain ≡ hmac x key (hash_range j p)) in
    keyed_is_mac (class_of j.auth) c.in-Hmac.field-0 j p (h.digest end.hash end.chain) (sym c.in-Hmac.ensures)
    (subst OfKey c.as_slice.ensures c.new.ensures.tag)

-- ---- a digest

pub new_plain-requires-clause-auth : goal.new_plain-requires-clause-auth
new_plain-requires-clause-auth g c =
    plain-served g.H.LaneHash.hashing (class_of c.args.job.now.auth) c.in-Plain.field-0 (sym c.in-Plain.ensures) c.requires.serves

pub new_plain-requires-clause-range : goal.new_plain-requires-clause-range
new_plain-requires-clause-range g c =
    (accepted c.args.job.now (length c.args.packet.items) c.requires.accepted).hash_range (ap has_hash_range (sym c.in-Plain.ensures))

pub returns-in-Plain-clause-rest : goal.returns-in-Plain-clause-rest
returns-in-Plain-clause-rest g c =
    let j : Job = c.args.job.now in
    c.new_plain.ensures.rest ∙ ap (λ (a : AuthClass). auth_rounds a g.H.LaneHash.hashing.block_bytes j.hash_len) c.in-Plain.ensures

pub returns-in-Plain-clause-mac : goal.returns-in-Plain-clause-mac
returns-in-Plain-clause-mac g c =
    let j : Job = c.args.job.now in
    let h = g.H.LaneHash.hashing in
    let p : List ℕ = c.args.packet.items in
    let end : HmacState = end_of (round h) rest_of c.new_plain.result in
    plain_is_mac (class_of j.auth) c.in-Plain.field-0 j p (h.digest end.hash end.chain) (sym c.in-Plain.ensures) c.new_plain.ensures.digest

-- ---- an HMAC from states

pub new_from_states-requires-clause-auth : goal.new_from_states-requires-clause-auth
new_from_states-requires-clause-auth g c =
    states-served g.H.LaneHash.hashing (class_of c.args.job.now.auth) c.in-States.field-0 (sym c.in-States.ensures) c.requires.serves

pub new_from_states-requires-clause-states : goal.new_from_states-requires-clause-states
new_from_states-requires-clause-states g c =
    let j : Job = c.args.job.now in
    let OfKey : List ℕ → Type 0 = λ key. IfSome (states_hash_of j.auth) (λ k. length key ≡ 2 * k.state_bytes) in
    subst OfKey (sym c.as_slice-in-States.ensures)
    (states-length (class_of j.auth) c.in-States.field-0 (length j.auth_key) (sym c.in-States.ensures)
    (accepted j (length c.args.packet.items) c.requires.accepted).auth_key)

pub new_from_states-requires-clause-range : goal.new_from_states-requires-clause-range
new_from_states-requires-clause-range g c =
    (accepted c.args.job.now (length c.args.packet.items) c.requires.accepted).hash_range (ap has_hash_range (sym c.in-States.ensures))

pub returns-in-States-clause-rest : goal.returns-in-States-clause-rest
returns-in-States-clause-rest g c =
    let j : Job = c.args.job.now in
    c.new_from_states.ensures.rest ∙ ap (λ (a : AuthClass). auth_rounds a g.H.LaneHash.hashing.block_bytes j.hash_len) c.in-States.ensures

pub returns-in-States-clause-mac : goal.returns-in-States-clause-mac
returns-in-States-clause-mac g c =
    let j : Job = c.args.job.now in
    let h = g.H.LaneHash.hashing in
    let p : List ℕ = c.args.packet.items in
    let end : HmacState = end_of (round h) rest_of c.new_from_states.result in
    let OfKey : List ℕ → Type 0 = λ key. IfSome (states_hash_of j.auth) (λ k. h.digest end.hash end.chain ≡ hmac_from_states k key (hash_range j p)) in
    states_is_mac (class_of j.auth) c.in-States.field-0 j p (h.digest end.hash end.chain) (sym c.in-States.ensures)
    (subst OfKey c.as_slice-in-States.ensures c.new_from_states.ensures.tag)
