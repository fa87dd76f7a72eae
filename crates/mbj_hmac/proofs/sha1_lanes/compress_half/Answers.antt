use Rattle.std.proofs.Common.{ap, ◌∙◌}
use Rattle.sha1.specs.Sha1.{compress}
use Rattle.mbj_sha1_lanes.proofs.BlockWords.{first_words_is}
use Rattle.mbj_hmac.proofs.sha1_lanes.compress_half.Goals as goal

pub returns : goal.returns
returns c j b inside is =
    c.put_half.ensures j inside
    ∙ c.compress_lanes.ensures j b inside (first_words_is b ∙ is)
    ∙ ap (λ s. compress s b) (c.take_half.ensures.lanes j inside)
