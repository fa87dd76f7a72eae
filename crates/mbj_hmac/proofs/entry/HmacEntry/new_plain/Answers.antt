use Rattle.std.proofs.Common.{◌≡◌, List, [], ℕ, ◌*◌, ap, ◌∙◌, length, take, drop, subst, sym}
use Rattle.std.specs.Prelude.{IfSome}
use Rattle.mbj_types.specs.Auths.{class_of, states_hash_in}
use Rattle.mbj_types.specs.declared.class.AuthClass.{AuthClass}
use Rattle.mbj_lane.specs.Rounds.{end_of}
use Rattle.mbj_hmac.specs.Begun.{begun}
use Rattle.mbj_hmac.specs.Rounds.{HmacState, rest_of, round, started_plain}
use Rattle.mbj_hmac.proofs.Beginnings.{plain_begins, plain_name, plain_serves}
use Rattle.mbj_hmac.proofs.Served.{of_plain_hash, of_plain_name}
use Rattle.mbj_hmac.proofs.entry.HmacEntry.new_plain.Goals as goal

pub refill-requires-clause-serves : goal.refill-requires-clause-serves
refill-requires-clause-serves g c =
    let h = g.H.LaneHash.hashing in
    let k = plain_name h (class_of c.args.auth) c.requires.auth in
    plain_serves h k.0 k.2 (class_of c.args.auth) k.1

pub refill-requires-clause-states : goal.refill-requires-clause-states
refill-requires-clause-states g c =
    let k = plain_name g.H.LaneHash.hashing (class_of c.args.auth) c.requires.auth in
    let none : List ℕ = [] in
    subst (λ (x : AuthClass). IfSome (states_hash_in x) (λ n. length none ≡ 2 * n.state_bytes)) (sym k.1) tt

pub returns-clause-start : goal.returns-clause-start
returns-clause-start g c =
    let h = g.H.LaneHash.hashing in
    let key : List ℕ = [] in
    let packet : List ℕ = c.args.packet.items in
    let k = plain_name h (class_of c.args.auth) c.requires.auth in
    of_plain_name c.args.auth k.0 k.1 (λ a. c.refill.new.self ≡ started_plain h a packet c.args.off c.args.len)
    (c.refill.ensures ∙ ap (λ (x : AuthClass). begun h x key packet c.args.off c.args.len) k.1)

pub returns-clause-rest : goal.returns-clause-rest
returns-clause-rest g c =
    let h = g.H.LaneHash.hashing in
    let key : List ℕ = [] in
    let k = plain_name h (class_of c.args.auth) c.requires.auth in
    ap (λ (e : HmacState). e.rest) (c.refill.ensures ∙ ap (λ (x : AuthClass). begun h x key c.args.packet.items c.args.off c.args.len) k.1)

pub returns-clause-packet : goal.returns-clause-packet
returns-clause-packet g c =
    let h = g.H.LaneHash.hashing in
    let hash = g.met.H.LaneHash in
    let key : List ℕ = [] in
    let packet : List ℕ = c.args.packet.items in
    let k = plain_name h (class_of c.args.auth) c.requires.auth in
    let begins = plain_begins h hash.standard hash.hashes hash.blocks hash.compressions key packet c.args.off c.args.len c.requires.range c.ranges.len.fits k.0 k.2 in
    ap (λ (e : HmacState). (end_of (round h) rest_of e).packet) (c.refill.ensures ∙ ap (λ (x : AuthClass). begun h x key packet c.args.off c.args.len) k.1)
    ∙ begins.packet_is

pub returns-clause-digest : goal.returns-clause-digest
returns-clause-digest g c =
    let h = g.H.LaneHash.hashing in
    let hash = g.met.H.LaneHash in
    let key : List ℕ = [] in
    let packet : List ℕ = c.args.packet.items in
    let k = plain_name h (class_of c.args.auth) c.requires.auth in
    let begins = plain_begins h hash.standard hash.hashes hash.blocks hash.compressions key packet c.args.off c.args.len c.requires.range c.ranges.len.fits k.0 k.2 in
    let digest : HmacState → List ℕ = λ e. let end : HmacState = end_of (round h) rest_of e in h.digest end.hash end.chain in
    of_plain_hash c.args.auth k.0 k.1 (λ x. digest c.refill.new.self ≡ x.digest (take c.args.len (drop c.args.off packet)))
    (ap digest (c.refill.ensures ∙ ap (λ (x : AuthClass). begun h x key packet c.args.off c.args.len) k.1) ∙ begins.value)
