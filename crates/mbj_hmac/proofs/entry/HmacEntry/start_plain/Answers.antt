use Rattle.std.proofs.Common.{ℕ, List, ap, ap₂, sym, ◌∙◌}
use Rattle.mbj_hmac.specs.declared.form.Form.TheVariants.{Plain}
use Rattle.mbj_hmac.specs.Inside.Layout.{message_end, seen}
use Rattle.mbj_hmac.proofs.NewEntries.{plain_sound, plain_seen}
use Rattle.mbj_hmac.proofs.entry.HmacEntry.start_plain.Goals as goal

pub put_plain_ends-requires-clause-whole : goal.put_plain_ends-requires-clause-whole
put_plain_ends-requires-clause-whole g c = c.self.invariant.0.3

pub invariant_of-self : goal.invariant_of-self
invariant_of-self g c =
    let h = g.H.LaneHash.hashing in
    let packet = c.args.packet.items in
    let off = c.args.off in
    let len = c.args.len in
    let words = g.H.LaneHash.words in
    let ends = c.put_plain_ends.ensures.value ∙ ap (λ (p : List ℕ). message_end h 0 p off len) c.deref.ensures.value in (
      plain_sound h g.met.H.LaneHash.standard packet off len c.args.hash (g.H.LaneHash.ends_bytes c.put_plain_ends.new.ends) (words c.initial-self-inside.result) (words c.zeros-self-inside.result) (words c.zeros-self-inside-2.result)
          c.plain_rounds-self-inside.result c.requires.range c.ranges.len.fits c.put_plain_ends.ensures.length c.requires.serves ends c.plain_rounds-self-inside.ensures.value,
      c.of-self-inside.ensures,
    )

pub returns : goal.returns
returns g c =
    let h = g.H.LaneHash.hashing in
    let packet = c.args.packet.items in
    let off = c.args.off in
    let len = c.args.len in
    let made : List ℕ = g.H.LaneHash.ends_bytes c.put_plain_ends.new.ends in
    let zeros : List ℕ = g.H.LaneHash.words c.zeros-self-inside.result in
    ap₂ (λ (s i : List ℕ). seen h packet c.plain_rounds-self-inside.result s zeros i c.args.hash Plain made off len) c.initial-self-inside.ensures (c.zeros-self-inside-2.ensures ∙ sym c.zeros-self-inside.ensures)
    ∙ plain_seen h g.met.H.LaneHash.standard packet off len c.args.hash made zeros c.plain_rounds-self-inside.result c.plain_rounds-self-inside.ensures.value c.zeros-self-inside.ensures
