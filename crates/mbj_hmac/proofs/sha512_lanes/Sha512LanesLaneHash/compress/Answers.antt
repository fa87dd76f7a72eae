use Rattle.std.proofs.Common.{ℕ, List, ◌∙◌}
use Rattle.mbj_sha512_lanes.proofs.BlockWords.{first_words_is}
use Rattle.mbj_hmac.proofs.sha512_lanes.Sha512LanesLaneHash.compress.Goals as goal

pub returns : goal.returns
returns g c i lt served =
    let block : List ℕ = g.B.Blocks.block c.args.blocks.now i in
    c.compress_scheduled.ensures.each i block lt (first_words_is block ∙ c.block_words-words.ensures.lanes i lt)
