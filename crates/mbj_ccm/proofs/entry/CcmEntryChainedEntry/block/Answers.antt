-- The rounds that are left say which block is next.
use Rattle.std.proofs.Common.{◌≡◌, ℕ, ◌+◌, ◌-◌, [], length, get_or, ap, ◌∙◌, arith}
use Rattle.mbj_types.specs.Rounds.{data_rounds, ccm_rounds}
use Rattle.mbj_ccm.specs.Rounds.{CcmState, blocks_of}
use Rattle.mbj_ccm.proofs.entry.CcmEntryChainedEntry.block.Goals as goal

pub returns-then-left-of_text : goal.returns-then-left-of_text
returns-then-left-of_text g c =
    let f = c.self.inside in
    let s : CcmState = c.args.self.now in
    let len : f.len ≡ s.len = ap (λ (e : CcmState). e.len) c.self.view_is in
    let rest : f.rest ≡ s.rest = ap (λ (e : CcmState). e.rest) c.self.view_is in
    let place : 1 + data_rounds (length s.aad) + (c.div_ceil-of_text.result - f.rest) ≡ ccm_rounds (length s.aad) s.len - s.rest =
    omega arith in
    c.text_block.ensures ∙ ap (λ (n : ℕ). get_or (blocks_of s) n []) place

pub returns-else-left-of_text : goal.returns-else-left-of_text
returns-else-left-of_text g c =
    let f = c.self.inside in
    let s : CcmState = c.args.self.now in
    let len : f.len ≡ s.len = ap (λ (e : CcmState). e.len) c.self.view_is in
    let rest : f.rest ≡ s.rest = ap (λ (e : CcmState). e.rest) c.self.view_is in
    let place : 1 + data_rounds (length s.aad) - (f.rest - c.div_ceil-of_text.result) ≡ ccm_rounds (length s.aad) s.len - s.rest =
    omega arith in
    c.block_before_text.ensures ∙ ap (λ (n : ℕ). get_or (blocks_of s) n []) place
