-- The counter of the mask is that of counter block 0, and the next ones follow it.
use Rattle.std.proofs.Common.{ℕ, List, ap, ◌∙◌, arith}
use Rattle.std.specs.List.{concat}
use Rattle.std.specs.Int.{w128, from_be_bytes}
use Rattle.mbj_types.specs.Aes.{encipher}
use Rattle.mbj_types.specs.Blocks.{blocks}
use Rattle.mbj_aes.proofs.States.{IsBytes-told}
use Rattle.mbj_blocks.proofs.Blocks.{length-blocks}
use Rattle.mbj_ccm.proofs.CounterNumbers.{counter-block, counted-after}
use Rattle.mbj_ccm.proofs.counter.apply_and_mask.Goals as goal

pub returns-clause-text : goal.returns-clause-text
returns-clause-text c =
    let e : List ℕ → List ℕ = encipher c.args.key.now in
    let parts : List (List ℕ) = blocks c.args.text.now in
    c.xor_counters_after.ensures.text
    ∙ ap concat
    (counted-after c.args.iv.now (IsBytes-told c.args.iv.now (λ k. omega (arith, c.type_inv.iv k))) c.requires.iv_most e c.from_be_bytes-first.result 0 parts
    (omega (arith, length-blocks c.args.text.now))
    (c.from_be_bytes-first.ensures ∙ ap (from_be_bytes w128) c.counter_block.ensures))

pub returns-clause-mask : goal.returns-clause-mask
returns-clause-mask c =
    c.xor_counters_after.ensures.mask
    ∙ ap (encipher c.args.key.now)
    (counter-block c.args.iv.now (IsBytes-told c.args.iv.now (λ k. omega (arith, c.type_inv.iv k))) c.requires.iv_most c.from_be_bytes-first.result 0
    (c.from_be_bytes-first.ensures ∙ ap (from_be_bytes w128) c.counter_block.ensures))
