-- Lane i is lane j of its half.
use Rattle.std.proofs.Common.{◌≡◌, sym, ◌∙◌}
use Rattle.sha1.specs.Sha1.{compress}
use Rattle.mbj_types.specs.Lanes.{lane_at, lane_of}
use Rattle.mbj_sha_lanes.specs.Words.{words32}
use Rattle.mbj_sha1_lanes.proofs.BlockWords.{first_words_is}
use Rattle.mbj_hmac.proofs.InHalves.{in_half}
use Rattle.mbj_hmac.proofs.sha1_lanes.compress_words.Goals as goal

pub returns-in-Some : goal.returns-in-Some
returns-in-Some c i b lt within is =
    in_half c.in-Some.half (λ i. words32 b ≡ lane_of (lane_at 32) c.args.words.now i
    → lane_of (lane_at 32) c.compress_half.new.states i ≡ compress (lane_of (lane_at 32) c.args.states.now i) b)
    (λ j inside is. c.compress_half.ensures j b inside (is ∙ sym (c.take_half.ensures.lanes j inside))) i (rw c.in-Some.is at within) is

pub returns-in-None : goal.returns-in-None
returns-in-None c i b lt within is = c.compress_lanes.ensures i b lt (first_words_is b ∙ is)
