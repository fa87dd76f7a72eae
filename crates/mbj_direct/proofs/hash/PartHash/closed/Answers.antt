-- A last block that isn't whole is filled with zeros.
use Rattle.std.proofs.Common.{◌≡◌, ℕ, ◌%◌, List, [], ◌∷◌, ◌++◌, length, take, sym, ap, ◌∙◌, arith, append_assoc}
use Rattle.mbj_types.specs.Blocks.{filled_block, zero_block}
use Rattle.mbj_types.specs.Ghash.{ghash, ghash_from}
use Rattle.mbj_direct.specs.declared.hash.PartHash.{PartHash}
use Rattle.mbj_direct.proofs.BlockRuns.{whole_blocks, behind, ghash_from-append, filled_blocks-whole, filled_blocks-last}
use Rattle.mbj_direct.proofs.hash.PartHash.closed.Goals as goal

pub returns-then-used-eq0 : goal.returns-then-used-eq0
returns-then-used-eq0 c xs text h =
    let s : PartHash = c.args.self.now in
    h.value ∙ ap (λ bs. ghash s.subkey (xs ++ bs)) (sym (filled_blocks-whole text (omega (arith, h.bytes))))

pub returns : goal.returns
returns c xs text h =
    let s : PartHash = c.args.self.now in
    let used : s.bytes % 16 ≡ length text % 16 = omega (arith, h.bytes) in
    let block : List ℕ = filled_block (behind text) in
    let is : c.filled_block.result ≡ block =
    c.filled_block.ensures ∙ ap filled_block (ap (λ (n : ℕ). take n s.last) used ∙ h.rest) in
    c.after_block.ensures
    ∙ ap (λ b. ghash_from s.subkey s.value (b ∷ [])) is
    ∙ ap (λ y. ghash_from s.subkey y (block ∷ [])) h.value
    ∙ sym (ghash_from-append s.subkey zero_block (xs ++ whole_blocks text) (block ∷ []))
    ∙ ap (ghash s.subkey) (append_assoc xs (whole_blocks text) (block ∷ [])
    ∙ ap (λ bs. xs ++ bs) (sym (filled_blocks-last text (omega (arith, h.bytes)))))
