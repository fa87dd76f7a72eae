use Rattle.std.proofs.Common.{ℕ, List, take, ap, ap₂, ◌∙◌}
use Rattle.mbj_types.specs.Hmac.{padded_key, ipad, opad}
use Rattle.mbj_hmac.specs.declared.form.Form.TheVariants.{Keyed}
use Rattle.mbj_hmac.specs.Inside.Layout.{first_ends, seen}
use Rattle.mbj_hmac.proofs.FirstEnds.{length-pad}
use Rattle.mbj_hmac.proofs.NewEntries.{Facts, new_sound, new_seen}
use Rattle.mbj_hmac.proofs.entry.HmacEntry.start_keyed.Goals as goal

pub invariant_of-self : goal.invariant_of-self
invariant_of-self g c =
    let h = g.H.LaneHash.hashing in
    let std = g.met.H.LaneHash.standard in
    let a = c.args.hash in
    let key = c.args.key.now in
    let packet = c.args.packet.items in
    let off = c.args.off in
    let len = c.args.len in
    let made : List ℕ = g.H.LaneHash.ends_bytes c.put_first_ends.new.ends in
    let front : List ℕ = take h.block_bytes (padded_key ipad key) in
    let back : List ℕ = take h.block_bytes (padded_key opad key) in
    let facts : Facts h std packet off len a made front back = record {
      front_is = length-pad h std key ipad c.put_first_ends.ensures.pads;
      back_is = length-pad h std key opad c.put_first_ends.ensures.pads;
      range = c.requires.range;
      small = c.ranges.len.fits;
      whole = c.put_first_ends.ensures.length;
      ends_are = c.put_first_ends.ensures.value ∙ ap (λ p. first_ends h front back p off len) c.deref.ensures.value;
      served = c.requires.serves;
    } in (
      new_sound h std packet off len a made front back facts (g.H.LaneHash.words c.initial-self-inside.result) (g.H.LaneHash.words c.zeros-self-inside.result)
          (g.H.LaneHash.words c.initial-self-inside-2.result) c.rounds-self-inside.result c.rounds-self-inside.ensures,
      c.of-self-inside.ensures,
    )

pub returns-clause-start : goal.returns-clause-start
returns-clause-start g c =
    let h = g.H.LaneHash.hashing in
    let std = g.met.H.LaneHash.standard in
    let a = c.args.hash in
    let key = c.args.key.now in
    let packet = c.args.packet.items in
    let off = c.args.off in
    let len = c.args.len in
    let made : List ℕ = g.H.LaneHash.ends_bytes c.put_first_ends.new.ends in
    let zeros : List ℕ = g.H.LaneHash.words c.zeros-self-inside.result in
    let front : List ℕ = take h.block_bytes (padded_key ipad key) in
    let back : List ℕ = take h.block_bytes (padded_key opad key) in
    let facts : Facts h std packet off len a made front back = record {
      front_is = length-pad h std key ipad c.put_first_ends.ensures.pads;
      back_is = length-pad h std key opad c.put_first_ends.ensures.pads;
      range = c.requires.range;
      small = c.ranges.len.fits;
      whole = c.put_first_ends.ensures.length;
      ends_are = c.put_first_ends.ensures.value ∙ ap (λ p. first_ends h front back p off len) c.deref.ensures.value;
      served = c.requires.serves;
    } in
    ap₂ (λ s i. seen h packet c.rounds-self-inside.result s zeros i a Keyed made off len) c.initial-self-inside.ensures c.initial-self-inside-2.ensures
    ∙ new_seen h std packet off len a made front back facts zeros c.rounds-self-inside.result c.rounds-self-inside.ensures c.zeros-self-inside.ensures
