-- The first two blocks go through the first register, and the next two through the second.
use Rattle.std.proofs.Common.{◌+◌, [], refl, ap, ◌∙◌, arith}
use Rattle.mbj_aes_lanes.proofs.ListParts.{part_read, changed_further, same_further}
use Rattle.mbj_aes_lanes.proofs.narrow.text_key.LaidKey.change_four.Goals as goal

pub returns-clause-first : goal.returns-clause-first
returns-clause-first g c i h =
    let change = g.D.Direction.change c.args.self.now in
    changed_further 2 2 c.store.new.blocks c.store-2.new.blocks (omega (arith, c.store.auto.blocks)) change c.args.blocks.now
    (λ i l. c.store.ensures.first i l ∙ c.change_all.ensures 0 i [] (omega arith) l ∙ ap change (c.load.ensures i l))
    (λ j l. c.store-2.ensures.first j l ∙ c.change_all.ensures 1 j [] (omega arith) l
    ∙ ap change (c.load-2.ensures j l ∙ part_read 2 c.args.blocks.now [] _ j (2 + j) refl refl)) i h

pub returns-clause-others : goal.returns-clause-others
returns-clause-others g c i h =
    same_further 2 2 c.store.new.blocks c.store-2.new.blocks (omega (arith, c.store.auto.blocks)) c.store-2.ensures.others i h
    ∙ c.store.ensures.others i (omega arith)
