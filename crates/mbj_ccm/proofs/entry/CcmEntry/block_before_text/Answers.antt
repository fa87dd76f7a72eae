-- A block of the additional data, or the first block.
use Rattle.std.proofs.Common.{◌≡◌, ℕ, ◌+◌, ◌-◌, List, [], length, get_or, sym, ap, ap₂, ◌∙◌, arith}
use Rattle.mbj_types.specs.Blocks.{filled_blocks}
use Rattle.mbj_types.specs.Ccm.{first_block, encoded_data, ccm_blocks}
use Rattle.mbj_types.specs.Result.{range}
use Rattle.mbj_types.specs.Rounds.{data_rounds}
use Rattle.mbj_blocks.proofs.Ranges.{length-range}
use Rattle.mbj_ccm.specs.Rounds.{CcmState}
use Rattle.mbj_ccm.proofs.Formatted.{block-data}
use Rattle.mbj_ccm.proofs.entry.CcmEntry.block_before_text.Goals as goal

pub returns-then-left-of_data : goal.returns-then-left-of_data
returns-then-left-of_data g c =
    let f = c.self.inside in
    let iv : List ℕ = f.iv.items in
    let aad : List ℕ = f.aad.items in
    let text : List ℕ = range f.off f.len f.packet.items in
    let n : ℕ = data_rounds (length aad) in
    let size : c.len.result ≡ length aad = omega arith in
    let many : c.data_rounds-of_data.result ≡ n = c.data_rounds-of_data.ensures ∙ ap data_rounds size in
    let number : c.data_rounds-of_data.result - c.args.left ≡ n - c.args.left = omega arith in
    let place : 1 + (n - c.args.left) ≡ 1 + n - c.args.left = omega arith in
    rw (← c.self.view_is)
    (c.data_block.ensures
    ∙ ap₂ (λ xs (i : ℕ). get_or (filled_blocks (encoded_data xs)) i []) c.deref.ensures.value number
    ∙ sym (block-data iv aad text f.tag_len (n - c.args.left) (omega arith))
    ∙ ap (λ (i : ℕ). get_or (ccm_blocks iv aad text f.tag_len) i []) place)

pub returns-else-left-of_data : goal.returns-else-left-of_data
returns-else-left-of_data g c =
    let f = c.self.inside in
    let iv : List ℕ = f.iv.items in
    let aad : List ℕ = f.aad.items in
    let text : List ℕ = range f.off f.len f.packet.items in
    let n : ℕ = data_rounds (length aad) in
    let size : c.len.result ≡ length aad = omega arith in
    let many : c.data_rounds-of_data.result ≡ n = c.data_rounds-of_data.ensures ∙ ap data_rounds size in
    let same : n ≡ data_rounds (length c.args.self.now.aad) = ap (λ (e : CcmState). data_rounds (length e.aad)) c.self.view_is in
    let place : 0 ≡ 1 + n - c.args.left = omega arith in
    rw (← c.self.view_is)
    (c.first_block.ensures
    ∙ ap₂ (λ xs ys. first_block xs ys f.len f.tag_len) c.deref-else-left-of_data.ensures.value
    c.deref-else-left-of_data-2.ensures.value
    ∙ ap (λ (k : ℕ). first_block iv aad k f.tag_len) (sym (length-range f.off f.len f.packet.items c.self.invariant.2.range))
    ∙ ap (λ (i : ℕ). get_or (ccm_blocks iv aad text f.tag_len) i []) place)
