use Rattle.std.proofs.Common.{◌≡◌, ℕ, ◌+◌, ◌-◌, List, length, take, drop, ap, ap₂, ◌∙◌, refl, arith}
use Rattle.std.specs.Prelude.{nat_lt, replicate, if◌then◌else◌}
use Rattle.mbj_hmac.specs.Inside.InLanes.{block_in}
use Rattle.mbj_hmac.specs.Inside.Layout.{is_in_packet, place_at}
use Rattle.mbj_hmac.specs.declared.places.TheConstants.{BLANK_BYTES}
use Rattle.mbj_hmac.proofs.Numbers.{size_range}
use Rattle.mbj_hmac.proofs.Placed.{block_is, few, has_room}
use Rattle.mbj_hmac.proofs.entry.HmacEntry.block.Goals as goal

pub place-at-requires-clause-few : goal.place-at-requires-clause-few
place-at-requires-clause-few g c =
    let h = g.H.LaneHash.hashing in
    let words = g.H.LaneHash.words in
    let f = c.self.inside in
    omega (
      arith,
      few h g.met.H.LaneHash.standard f.packet.items (words f.chain) (words f.inner) (words f.start) f.hash f.form (g.H.LaneHash.ends_bytes f.ends)
          f.rest f.off f.len f.places c.self.invariant.0 c.self.invariant.1 c.args.done,
    )

pub overflow_add-result : goal.overflow_add-result
overflow_add-result g c =
    omega (arith, c.place-at.ensures.few, c.block_bytes-block.ensures, (size_range g.H.LaneHash.hashing.block_bytes g.met.H.LaneHash.standard.size).1)

pub slice_bounds-result-end : goal.slice_bounds-result-end
slice_bounds-result-end g c =
    let h = g.H.LaneHash.hashing in
    let words = g.H.LaneHash.words in
    let bytes = g.H.LaneHash.ends_bytes in
    let f = c.self.inside in
    let r : ℕ = f.rest - c.args.done in
    let rest : c.saturating_sub-rest.result ≡ r = c.saturating_sub-rest.ensures in
    let source : c.source-source.result.now ≡ (if is_in_packet f.places r then f.packet.items else if nat_lt f.places.made r then bytes f.ends else replicate BLANK_BYTES 0) =
    c.source-source.ensures ∙ rw (c.is_in_packet.ensures, c.is_read.ensures, rest, c.deref.ensures.value, c.ends.ensures, c.blank_blocks.ensures) refl in
    let place : c.place-at.result ≡ place_at h.block_bytes f.places r f.off =
    c.place-at.ensures.place ∙ ap₂ (λ n x. place_at n f.places x f.off) c.block_bytes-block.ensures rest in
    let room = has_room h g.met.H.LaneHash.standard f.packet.items (words f.chain) (words f.inner) (words f.start) f.hash f.form (bytes f.ends) f.rest f.off f.len
    f.places c.self.invariant.0 c.self.invariant.1 c.args.done in
    omega (arith, room, place, c.block_bytes-block.ensures, ap length source)

pub returns-clause-block : goal.returns-clause-block
returns-clause-block g c =
    let h = g.H.LaneHash.hashing in
    let words = g.H.LaneHash.words in
    let bytes = g.H.LaneHash.ends_bytes in
    let f = c.self.inside in
    let r : ℕ = f.rest - c.args.done in
    let rest : c.saturating_sub-rest.result ≡ r = c.saturating_sub-rest.ensures in
    let source : c.source-source.result.now ≡ (if is_in_packet f.places r then f.packet.items else if nat_lt f.places.made r then bytes f.ends else replicate BLANK_BYTES 0) =
    c.source-source.ensures ∙ rw (c.is_in_packet.ensures, c.is_read.ensures, rest, c.deref.ensures.value, c.ends.ensures, c.blank_blocks.ensures) refl in
    let place : c.place-at.result ≡ place_at h.block_bytes f.places r f.off =
    c.place-at.ensures.place ∙ ap₂ (λ n x. place_at n f.places x f.off) c.block_bytes-block.ensures rest in
    let size : c.place-at.result + c.block_bytes-block.result - c.place-at.result ≡ h.block_bytes = omega (arith, c.block_bytes-block.ensures) in
    ap (λ k. take k (drop c.place-at.result c.source-source.result.now)) size
    ∙ ap₂ (λ k (xs : List ℕ). take h.block_bytes (drop k xs)) place source
    ∙ block_is h g.met.H.LaneHash.standard f.packet.items (words f.chain) (words f.inner) (words f.start) f.hash f.form (bytes f.ends) f.rest f.off f.len
    f.places c.self.invariant.0 c.self.invariant.1 c.args.done
    ∙ ap (λ e. block_in h e c.args.done) c.self.view_is
