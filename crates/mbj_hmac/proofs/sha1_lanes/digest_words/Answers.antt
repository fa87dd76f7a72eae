use Rattle.std.proofs.Common.{ℕ, ◌^◌, ◌<◌, replicate, slice_index_or, [], ap, ◌∙◌, arith}
use Rattle.mbj_types.specs.Lanes.{lane_at, lane_at-lt}
use Rattle.mbj_sha_lanes.specs.Words.{words32}
use Rattle.mbj_sha1_lanes.proofs.Windows.{five_at}
use Rattle.mbj_hmac.specs.Hashings.{sha1_hashing}
use Rattle.mbj_hmac.specs.Inside.Layout.{digest_block}
use Rattle.mbj_hmac.proofs.DigestWords.{sha1_block}
use Rattle.mbj_hmac.proofs.Vectors.{splat_is}
use Rattle.mbj_hmac.proofs.sha1_lanes.digest_words.Goals as goal

pub returns-clause-lanes : goal.returns-clause-lanes
returns-clause-lanes c i h a served bits =
    let inner = c.args.inner.now in
    let at : ℕ → ℕ = λ k. lane_at 32 (slice_index_or inner k []) i in
    let fits : (k : ℕ) → at k < 2 ^ 32 = λ k. lane_at-lt 32 (slice_index_or inner k []) i in
    ap (λ s. words32 (digest_block sha1_hashing a s)) (five_at (lane_at 32) inner i c.told-inner)
    ∙ sha1_block (at 0) (at 1) (at 2) (at 3) (at 4) (fits 0) (fits 1) (fits 2) (fits 3) (fits 4) a (lane_at 32 c.args.bits i)
    (lane_at 32 (replicate 16 0x80000000) i) (lane_at 32 (replicate 16 0) i) served bits (splat_is 16 i 0x80000000 h (omega arith)) (splat_is 16 i 0 h (omega arith))
