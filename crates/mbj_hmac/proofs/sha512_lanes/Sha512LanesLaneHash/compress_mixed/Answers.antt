use Rattle.std.proofs.Common.{◌≡◌, ℕ, List, true, false, eqb, replicate, sym, ap, ◌∙◌, cond, arith}
use Rattle.std.proofs.lemmas.Bool.{eq-eqb, ne_eqb}
use Rattle.mbj_types.specs.Lanes.{lane_at, lane_of}
use Rattle.mbj_sha512_lanes.proofs.BlockWords.{first_words_is}
use Rattle.mbj_hmac.specs.Hashings.{sha512_hashing}
use Rattle.mbj_hmac.specs.Inside.Layout.{digest_block}
use Rattle.mbj_hmac.proofs.Vectors.{splat64_is}
use Rattle.mbj_hmac.proofs.sha512_lanes.Sha512LanesLaneHash.compress_mixed.Goals as goal

pub returns-clause-digests : goal.returns-clause-digests
returns-clause-digests g c i lt within same a served bits =
    let splat = splat64_is 8 i c.args.last lt (omega (arith, c.ranges.last.fits)) in
    let met : eqb (lane_at 64 c.of_numbers.result i) (lane_at 64 (replicate 8 c.args.last) i) ≡ true =
    eq-eqb _ _ (c.of_numbers.ensures i lt ∙ same ∙ sym splat) in
    let made = lane_of (lane_at 64) c.digest_words.result i in
    let read = lane_of (lane_at 64) c.block_words-words.result i in
    let words = c.choose.ensures.chosen i lt ∙ ap (λ t. cond t made read) met in
    let block : List ℕ = digest_block sha512_hashing a (lane_of (lane_at 64) c.args.inner.now i) in
    c.compress_scheduled.ensures.each i block lt (first_words_is block ∙ c.digest_words.ensures.lanes i lt a served bits ∙ sym words)

pub returns-clause-blocks : goal.returns-clause-blocks
returns-clause-blocks g c i lt within apart =
    let splat = splat64_is 8 i c.args.last lt (omega (arith, c.ranges.last.fits)) in
    let not_met : eqb (lane_at 64 c.of_numbers.result i) (lane_at 64 (replicate 8 c.args.last) i) ≡ false =
    ne_eqb _ _ (λ q. apart (sym (c.of_numbers.ensures i lt) ∙ q ∙ splat)) in
    let made = lane_of (lane_at 64) c.digest_words.result i in
    let read = lane_of (lane_at 64) c.block_words-words.result i in
    let words = c.choose.ensures.chosen i lt ∙ ap (λ t. cond t made read) not_met in
    let block : List ℕ = g.B.Blocks.block c.args.blocks.now i in
    c.compress_scheduled.ensures.each i block lt (first_words_is block ∙ c.block_words-words.ensures.lanes i lt ∙ sym words)
