-- Opening undoes sealing.
use Rattle.std.proofs.Common.{ℕ, ◌+◌, List, refl, ap}
use Rattle.mbj_types.specs.Aes.{aes}
use Rattle.mbj_types.specs.Blocks.{xor_lists}
use Rattle.mbj_types.specs.Ccm.{counter_block, counted, ccm_mac, ccm_mask}
use Rattle.mbj_aes.proofs.AesLaws.{length-aes}
use Rattle.mbj_blocks.proofs.XoredTwice.{text_xored-twice}
use Rattle.mbj_ccm.specs.Laws.{OpeningUndoesSealing}

-- the law, for texts
pub ccm_undone : OpeningUndoesSealing
ccm_undone key nonce aad text tag_len k b =
    let e : List ℕ → List ℕ = aes key in
    ap (λ ys. (ys, xor_lists (ccm_mac e nonce aad ys tag_len) (ccm_mask e nonce)))
    (text_xored-twice (λ (i : ℕ). i + 1) (λ i. e (counter_block nonce i)) (counted e nonce) (λ i. refl) (λ i p ps. refl)
    (λ i. length-aes key (counter_block nonce i) k) 1 text)
