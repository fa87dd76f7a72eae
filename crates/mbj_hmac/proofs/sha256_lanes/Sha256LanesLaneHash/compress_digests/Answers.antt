use Rattle.mbj_types.specs.Lanes.{lane_at, lane_of}
use Rattle.mbj_hmac.specs.Hashings.{sha256_hashing}
use Rattle.mbj_hmac.specs.Inside.Layout.{digest_block}
use Rattle.mbj_hmac.proofs.sha256_lanes.Sha256LanesLaneHash.compress_digests.Goals as goal

pub returns : goal.returns
returns c i lt within a served bits =
    c.compress_words.ensures i (digest_block sha256_hashing a (lane_of (lane_at 32) c.args.inner.now i)) lt within
    (c.digest_words-words.ensures.lanes i lt a served bits)
