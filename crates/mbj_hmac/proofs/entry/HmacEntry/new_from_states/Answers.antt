use Rattle.std.proofs.Common.{◌≡◌, List, ℕ, ap, ◌∙◌, take, drop}
use Rattle.mbj_types.specs.Auths.{class_of}
use Rattle.mbj_types.specs.declared.class.AuthClass.{AuthClass}
use Rattle.mbj_types.specs.States.{hmac_from_states}
use Rattle.mbj_lane.specs.Rounds.{end_of}
use Rattle.mbj_hmac.specs.Begun.{begun, begun_states}
use Rattle.mbj_hmac.specs.Rounds.{HmacState, rest_of, round}
use Rattle.mbj_hmac.proofs.Beginnings.{states_begin, states_name, states_serve}
use Rattle.mbj_hmac.proofs.Served.{of_states_hash, of_states_name}
use Rattle.mbj_hmac.proofs.entry.HmacEntry.new_from_states.Goals as goal

pub refill-requires-clause-serves : goal.refill-requires-clause-serves
refill-requires-clause-serves g c =
    let h = g.H.LaneHash.hashing in
    let k = states_name h (class_of c.args.auth) c.requires.auth in
    states_serve h k.0 k.2 (class_of c.args.auth) k.1

pub returns-clause-start : goal.returns-clause-start
returns-clause-start g c =
    let h = g.H.LaneHash.hashing in
    let key : List ℕ = c.args.states.now in
    let packet : List ℕ = c.args.packet.items in
    let k = states_name h (class_of c.args.auth) c.requires.auth in
    of_states_name c.args.auth k.0 k.1 (λ a. c.refill.new.self ≡ begun_states h a key packet c.args.off c.args.len)
    (c.refill.ensures ∙ ap (λ (x : AuthClass). begun h x key packet c.args.off c.args.len) k.1)

pub returns-clause-rest : goal.returns-clause-rest
returns-clause-rest g c =
    let h = g.H.LaneHash.hashing in
    let key : List ℕ = c.args.states.now in
    let k = states_name h (class_of c.args.auth) c.requires.auth in
    ap (λ (e : HmacState). e.rest) (c.refill.ensures ∙ ap (λ (x : AuthClass). begun h x key c.args.packet.items c.args.off c.args.len) k.1)

pub returns-clause-packet : goal.returns-clause-packet
returns-clause-packet g c =
    let h = g.H.LaneHash.hashing in
    let hash = g.met.H.LaneHash in
    let key : List ℕ = c.args.states.now in
    let packet : List ℕ = c.args.packet.items in
    let k = states_name h (class_of c.args.auth) c.requires.auth in
    let begins = states_begin h hash.standard hash.hashes hash.blocks hash.compressions key packet c.args.off c.args.len c.requires.range c.ranges.len.fits k.0 k.2 in
    ap (λ (e : HmacState). (end_of (round h) rest_of e).packet) (c.refill.ensures ∙ ap (λ (x : AuthClass). begun h x key packet c.args.off c.args.len) k.1)
    ∙ begins.packet_is

pub returns-clause-tag : goal.returns-clause-tag
returns-clause-tag g c =
    let h = g.H.LaneHash.hashing in
    let hash = g.met.H.LaneHash in
    let key : List ℕ = c.args.states.now in
    let packet : List ℕ = c.args.packet.items in
    let k = states_name h (class_of c.args.auth) c.requires.auth in
    let begins = states_begin h hash.standard hash.hashes hash.blocks hash.compressions key packet c.args.off c.args.len c.requires.range c.ranges.len.fits k.0 k.2 in
    let digest : HmacState → List ℕ = λ e. let end : HmacState = end_of (round h) rest_of e in h.digest end.hash end.chain in
    of_states_hash c.args.auth k.0 k.1 (λ x. digest c.refill.new.self ≡ hmac_from_states x key (take c.args.len (drop c.args.off packet)))
    (ap digest (c.refill.ensures ∙ ap (λ (x : AuthClass). begun h x key packet c.args.off c.args.len) k.1) ∙ begins.value)
