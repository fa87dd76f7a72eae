use Rattle.std.proofs.Common.{ℕ, ◌+◌, ◌<◌, inl, inr, sym, ◌∙◌, arith}
use Rattle.std.proofs.lemmas.Bool.{cases_eq}
use Rattle.mbj_types.specs.Lanes.{lane_at}
use Rattle.mbj_hmac.specs.Inside.InLanes.{entry_in, most_lanes}
use Rattle.mbj_hmac.proofs.DigestBlocks.{made_advanced, read_advanced}
use Rattle.mbj_hmac.proofs.Vectors.{splat_is}
use Rattle.mbj_hmac.proofs.next_blocks.pass.Goals as goal

pub returns-then-not-has_equal : goal.returns-then-not-has_equal
returns-then-not-has_equal g c i lt busy =
    let hash = g.met.H.LaneHash in
    let lane = g.H.LaneHash.lane in
    let rests = c.args.rests.now in
    let few : i < most_lanes = omega (arith, hash.narrow) in
    read_advanced g.H.LaneHash.hashing hash.standard (lane c.args.states.now i) (lane c.args.inner.now i) (lane_at 32 rests.bits i) (entry_in c.args.entries.now i)
    (c.requires.digests i few busy) (lane_at 32 rests.left i) (lane_at 32 rests.turns i) c.args.done (lane_at 32 c.outer_left-counts.result i) (lane c.compress.new.states i)
    (c.requires.tied.tied i few) busy (c.requires.rests i few busy) (c.outer_left-counts.ensures i few)
    (λ same. c.has_equal.ensures c.if-not-has_equal.true i few (same ∙ sym (splat_is 16 i (c.args.done + 1) few (omega (arith, c.requires.few)))))
    (c.compress.ensures i lt (c.requires.half i lt busy))

pub returns-then-has_other : goal.returns-then-has_other
returns-then-has_other g c i lt busy =
    let hash = g.met.H.LaneHash in
    let lane = g.H.LaneHash.lane in
    let rests = c.args.rests.now in
    let few : i < most_lanes = omega (arith, hash.narrow) in
    let has = c.requires.digests i few busy in
    let k : ℕ = lane_at 32 c.outer_left-counts.result i in
    let e = entry_in c.args.entries.now i in
    let within = c.requires.half i lt busy in
    elim (cases_eq k (c.args.done + 1)) [
      | inl same ↦
          made_advanced g.H.LaneHash.hashing hash.standard (lane c.args.states.now i) (lane c.args.inner.now i) (lane_at 32 rests.bits i) e has
          (lane_at 32 rests.left i) (lane_at 32 rests.turns i) c.args.done k (lane c.compress_mixed.new.states i)
          (c.requires.tied.tied i few) busy (c.requires.rests i few busy) (c.outer_left-counts.ensures i few)
          same (c.compress_mixed.ensures.digests i lt within same e.hash has.served has.bits)
      | inr apart ↦
          read_advanced g.H.LaneHash.hashing hash.standard (lane c.args.states.now i) (lane c.args.inner.now i) (lane_at 32 rests.bits i) e has
          (lane_at 32 rests.left i) (lane_at 32 rests.turns i) c.args.done k (lane c.compress_mixed.new.states i)
          (c.requires.tied.tied i few) busy (c.requires.rests i few busy) (c.outer_left-counts.ensures i few)
          apart (c.compress_mixed.ensures.blocks i lt within apart)
    ]

pub returns-else-has_other : goal.returns-else-has_other
returns-else-has_other g c i lt busy =
    let hash = g.met.H.LaneHash in
    let lane = g.H.LaneHash.lane in
    let rests = c.args.rests.now in
    let few : i < most_lanes = omega (arith, hash.narrow) in
    let has = c.requires.digests i few busy in
    let e = entry_in c.args.entries.now i in
    made_advanced g.H.LaneHash.hashing hash.standard (lane c.args.states.now i) (lane c.args.inner.now i) (lane_at 32 rests.bits i) e has
    (lane_at 32 rests.left i) (lane_at 32 rests.turns i) c.args.done (lane_at 32 c.outer_left-counts.result i) (lane c.compress_digests.new.states i)
    (c.requires.tied.tied i few) busy (c.requires.rests i few busy) (c.outer_left-counts.ensures i few)
    (c.has_other.ensures c.if-has_other.false i few busy)
    (c.compress_digests.ensures i lt (c.requires.half i lt busy) e.hash has.served has.bits)
