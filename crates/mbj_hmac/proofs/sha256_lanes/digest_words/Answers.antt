use Rattle.std.proofs.Common.{◌≡◌, ℕ, ◌^◌, ◌<◌, replicate, slice_index_or, [], cond, eqb, ap, ap₂, ◌∙◌, arith}
use Rattle.mbj_types.specs.Lanes.{lane_at, lane_at-lt}
use Rattle.mbj_sha_lanes.specs.Words.{words32}
use Rattle.mbj_sha_lanes.proofs.EightWords.{eight_at}
use Rattle.mbj_hmac.specs.Hashings.{sha256_hashing}
use Rattle.mbj_hmac.specs.Inside.Layout.{digest_block}
use Rattle.mbj_hmac.proofs.DigestWords.{sha256_block}
use Rattle.mbj_hmac.proofs.Vectors.{splat_is}
use Rattle.mbj_hmac.proofs.sha256_lanes.digest_words.Goals as goal

pub returns-clause-lanes : goal.returns-clause-lanes
returns-clause-lanes c i h a served bits =
    let inner = c.args.inner.now in
    let at : ℕ → ℕ = λ k. lane_at 32 (slice_index_or inner k []) i in
    let fits : (k : ℕ) → at k < 2 ^ 32 = λ k. lane_at-lt 32 (slice_index_or inner k []) i in
    let n : ℕ = lane_at 32 c.args.bits i in
    let full : lane_at 32 (replicate 16 768) i ≡ 768 = splat_is 16 i 768 h (omega arith) in
    let one : lane_at 32 (replicate 16 0x80000000) i ≡ 0x80000000 = splat_is 16 i 0x80000000 h (omega arith) in
    let zero : lane_at 32 (replicate 16 0) i ≡ 0 = splat_is 16 i 0 h (omega arith) in
    let seventh = c.where_equal-seventh.ensures i h ∙ ap₂ (λ m x. cond (eqb n m) (at 7) x) full one in
    let eighth = c.where_equal-eighth.ensures i h
    ∙ ap₂ (λ m x. cond (eqb n m) x (lane_at 32 (replicate 16 0) i)) full one ∙ ap (λ x. cond (eqb n 768) 0x80000000 x) zero in
    ap (λ s. words32 (digest_block sha256_hashing a s)) (eight_at (lane_at 32) inner i c.told-inner)
    ∙ sha256_block (at 0) (at 1) (at 2) (at 3) (at 4) (at 5) (at 6) (at 7) (fits 0) (fits 1) (fits 2) (fits 3) (fits 4) (fits 5) (fits 6) (fits 7)
    a n (lane_at 32 c.where_equal-seventh.result i) (lane_at 32 c.where_equal-eighth.result i) (lane_at 32 (replicate 16 0) i) served bits seventh eighth zero
