use Rattle.std.proofs.Common.{◌≡◌, true, false, eqb, replicate, sym, ap, ◌∙◌, cond}
use Rattle.std.proofs.lemmas.Bool.{eq-eqb, ne_eqb}
use Rattle.mbj_types.specs.Lanes.{lane_at, lane_of}
use Rattle.mbj_hmac.specs.Hashings.{sha256_hashing}
use Rattle.mbj_hmac.specs.Inside.Layout.{digest_block}
use Rattle.mbj_hmac.proofs.Vectors.{splat_is}
use Rattle.mbj_hmac.proofs.sha256_lanes.Sha256LanesLaneHash.compress_mixed.Goals as goal

pub returns-clause-digests : goal.returns-clause-digests
returns-clause-digests g c i lt within same a served bits =
    let splat = splat_is 16 i c.args.last lt c.ranges.last.fits in
    let met : eqb (lane_at 32 c.args.counts i) (lane_at 32 (replicate 16 c.args.last) i) ≡ true = eq-eqb _ _ (same ∙ sym splat) in
    let made = lane_of (lane_at 32) c.digest_words.result i in
    let read = lane_of (lane_at 32) c.loaded-words.result i in
    let words = c.choose.ensures.chosen i lt ∙ ap (λ t. cond t made read) met in
    c.compress_words.ensures i (digest_block sha256_hashing a (lane_of (lane_at 32) c.args.inner.now i)) lt within
    (c.digest_words.ensures.lanes i lt a served bits ∙ sym words)

pub returns-clause-blocks : goal.returns-clause-blocks
returns-clause-blocks g c i lt within apart =
    let splat = splat_is 16 i c.args.last lt c.ranges.last.fits in
    let not_met : eqb (lane_at 32 c.args.counts i) (lane_at 32 (replicate 16 c.args.last) i) ≡ false = ne_eqb _ _ (λ q. apart (q ∙ splat)) in
    let made = lane_of (lane_at 32) c.digest_words.result i in
    let read = lane_of (lane_at 32) c.loaded-words.result i in
    let words = c.choose.ensures.chosen i lt ∙ ap (λ t. cond t made read) not_met in
    c.compress_words.ensures i (g.B.Blocks.block c.args.blocks.now i) lt within (c.loaded-words.ensures.lanes i lt within ∙ sym words)
