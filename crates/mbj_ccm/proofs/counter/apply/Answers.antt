-- The counter blocks are those of the counter, which doesn't carry into the nonce.
use Rattle.std.proofs.Common.{ℕ, List, ap, ◌∙◌, arith}
use Rattle.std.specs.List.{concat}
use Rattle.std.specs.Int.{w128, from_be_bytes}
use Rattle.mbj_types.specs.Aes.{encipher}
use Rattle.mbj_types.specs.Blocks.{blocks}
use Rattle.mbj_aes.proofs.States.{IsBytes-told}
use Rattle.mbj_blocks.proofs.Blocks.{length-blocks}
use Rattle.mbj_ccm.proofs.CounterNumbers.{counted-from}
use Rattle.mbj_ccm.proofs.counter.apply.Goals as goal

pub returns : goal.returns
returns c =
    let e : List ℕ → List ℕ = encipher c.args.key.now in
    let parts : List (List ℕ) = blocks c.args.text.now in
    c.xor_counters.ensures
    ∙ ap concat
    (counted-from c.args.iv.now (IsBytes-told c.args.iv.now (λ k. omega (arith, c.type_inv.iv k))) c.requires.iv_most e c.from_be_bytes-first.result 1 parts
    (omega (arith, length-blocks c.args.text.now))
    (c.from_be_bytes-first.ensures ∙ ap (from_be_bytes w128) c.counter_block.ensures))
