use Rattle.std.proofs.Common.{◌∙◌}
use Rattle.mbj_types.specs.Lanes.{lane_at, lane_of}
use Rattle.mbj_sha512_lanes.proofs.BlockWords.{first_words_is}
use Rattle.mbj_hmac.specs.Hashings.{sha512_hashing}
use Rattle.mbj_hmac.specs.Inside.Layout.{digest_block}
use Rattle.mbj_hmac.proofs.sha512_lanes.Sha512LanesLaneHash.compress_digests.Goals as goal

pub returns : goal.returns
returns c i lt within a served bits =
    let block = digest_block sha512_hashing a (lane_of (lane_at 64) c.args.inner.now i) in
    c.compress_scheduled.ensures.each i block lt (first_words_is block ∙ c.digest_words-words.ensures.lanes i lt a served bits)
