-- Lane i is lane j of its half.
use Rattle.std.proofs.Common.{◌≡◌, ℕ, ◌+◌, List, ◌∙◌, arith}
use Rattle.sha1.specs.Sha1.{compress}
use Rattle.mbj_types.specs.Lanes.{lane_at, lane_of}
use Rattle.mbj_sha_lanes.specs.Halves.{first_of}
use Rattle.mbj_sha_lanes.proofs.VectorParts.{first_of-le}
use Rattle.mbj_sha1_lanes.proofs.BlockWords.{first_words_is}
use Rattle.mbj_hmac.proofs.InHalves.{in_half}
use Rattle.mbj_hmac.proofs.sha1_lanes.Sha1LanesLaneHash.compress.Goals as goal

pub half_words-words-requires-clause-lent : goal.half_words-words-requires-clause-lent
half_words-words-requires-clause-lent g c i lt = c.requires.lent (first_of c.in-Some.half + i) (omega (arith, first_of-le c.in-Some.half))

pub returns-in-Some : goal.returns-in-Some
returns-in-Some g c i lt within =
    let block : ℕ → List ℕ = λ k. g.B.Blocks.block c.args.blocks.now k in
    in_half c.in-Some.half (λ i. lane_of (lane_at 32) c.compress_half.new.states i ≡ compress (lane_of (lane_at 32) c.args.states.now i) (block i))
    (λ j inside. c.compress_half.ensures j (block (first_of c.in-Some.half + j)) inside (c.half_words-words.ensures.lanes j inside)) i (rw c.in-Some.is at within)

pub returns-in-None : goal.returns-in-None
returns-in-None g c i lt within =
    let block : List ℕ = g.B.Blocks.block c.args.blocks.now i in
    c.compress_lanes.ensures i block lt (first_words_is block ∙ c.block_words-words.ensures.lanes i lt)
