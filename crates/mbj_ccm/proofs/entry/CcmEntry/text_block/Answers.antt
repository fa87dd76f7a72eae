-- Block i of the range, with zero bytes behind its end.
use Rattle.std.proofs.Common.{◌≡◌, ℕ, ◌+◌, ◌-◌, List, length, take, drop, sym, ap, ap₂, ◌∙◌, arith}
use Rattle.mbj_types.specs.Blocks.{filled_block}
use Rattle.mbj_types.specs.Result.{range}
use Rattle.mbj_blocks.specs.Places.{block_of}
use Rattle.mbj_blocks.proofs.Ranges.{length-range}
use Rattle.mbj_ccm.specs.Rounds.{CcmState}
use Rattle.mbj_ccm.proofs.Formatted.{get_or-filled_blocks, block-text}
use Rattle.mbj_ccm.proofs.entry.CcmEntry.text_block.Goals as goal

pub returns : goal.returns
returns g c =
    let f = c.self.inside in
    let text : List ℕ = range f.off f.len f.packet.items in
    let i : ℕ = c.args.i in
    let size : length text ≡ f.len = length-range f.off f.len f.packet.items c.self.invariant.2.range in
    let len : f.len ≡ c.args.self.now.len = ap (λ (e : CcmState). e.len) c.self.view_is in
    let here : f.off + f.len - f.off ≡ f.len = omega arith in
    rw (← c.self.view_is)
    (c.filled_from.ensures
    ∙ ap₂ (λ (n : ℕ) p. filled_block (block_of (take n (drop f.off p)) i)) here c.deref.ensures.value
    ∙ sym (get_or-filled_blocks text i (omega (arith, size, len, c.requires)))
    ∙ sym (block-text f.iv.items f.aad.items text f.tag_len i))
