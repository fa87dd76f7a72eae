-- The tag is over the text as it was.
use Rattle.std.proofs.Common.{length, ◌∙◌}
use Rattle.mbj_gcm.proofs.Tags.{tag-first}
use Rattle.mbj_gcm.proofs.in_place.unseal.Goals as goal

pub returns-clause-tag : goal.returns-clause-tag
returns-clause-tag c =
    c.tag-computed.ensures
    ∙ tag-first c.new-key.result c.args.key.now c.pre_counter_block-pre_counter.result c.args.iv.now c.args.aad.now c.args.text.now
    (length c.args.text.now) c.first_batch-outputs.result c.new-key.ensures c.pre_counter_block-pre_counter.ensures
    c.first_batch-outputs.ensures
