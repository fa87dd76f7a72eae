-- The sum of the value and the block is taken by a hash whose value is zeros.
use Rattle.std.proofs.Common.{◌≡◌, ℕ, List, length, ap, ◌∙◌, arith}
use Rattle.mbj_types.specs.Blocks.{xor_lists}
use Rattle.mbj_types.specs.Ghash.{block_product}
use Rattle.mbj_ghash.specs.State.{HashState}
use Rattle.mbj_direct.proofs.BlockRuns.{zeros-xored}
use Rattle.mbj_direct.proofs.hash.resumed.Goals as goal

pub returns : goal.returns
returns c =
    let h : List ℕ = c.args.subkey.now in
    let sum : List ℕ = c.xor_in_place.new.text in
    let size : length sum ≡ 16 = omega arith in
    c.update_block.ensures.next
    ∙ ap (λ (s : HashState). record s { value = block_product (xor_lists s.value sum) s.subkey }) c.new-hash.ensures
    ∙ ap (λ (x : List ℕ). record { subkey = h; value = block_product x h }) (zeros-xored 16 sum size ∙ c.xor_in_place.ensures)
