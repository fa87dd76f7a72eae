use Rattle.std.proofs.Common.{ap, ◌∙◌}
use Rattle.mbj_hmac.specs.Inside.Layout.{message_end}
use Rattle.mbj_hmac.proofs.NewEntries.{states_sound, states_seen}
use Rattle.mbj_hmac.proofs.entry.HmacEntry.start_states.Goals as goal

pub put_states_ends-requires-clause-whole : goal.put_states_ends-requires-clause-whole
put_states_ends-requires-clause-whole g c = c.self.invariant.0.3

pub invariant_of-self : goal.invariant_of-self
invariant_of-self g c =
    let h = g.H.LaneHash.hashing in
    let words = g.H.LaneHash.words in
    let off = c.args.off in
    let len = c.args.len in
    let hash = c.args.hash in
    let ends = c.put_states_ends.ensures.value ∙ ap (λ p. message_end h h.block_bytes p off len) c.deref.ensures.value in (
      states_sound h g.met.H.LaneHash.standard c.args.packet.items off len hash (g.H.LaneHash.ends_bytes c.put_states_ends.new.ends) (words c.args.inner) (words c.zeros-self-inside.result)
          (words c.args.outer) c.states_rounds-self-inside.result c.requires.range c.ranges.len.fits c.put_states_ends.ensures.length c.requires.serves ends c.states_rounds-self-inside.ensures,
      c.of-self-inside.ensures,
    )

pub returns : goal.returns
returns g c =
    let words = g.H.LaneHash.words in
    states_seen g.H.LaneHash.hashing g.met.H.LaneHash.standard c.args.packet.items c.args.off c.args.len c.args.hash
    (g.H.LaneHash.ends_bytes c.put_states_ends.new.ends) (words c.args.inner) (words c.zeros-self-inside.result) (words c.args.outer)
    c.states_rounds-self-inside.result c.states_rounds-self-inside.ensures c.zeros-self-inside.ensures
