-- The whole blocks are hashed, and the rest stands in the last block.
use Rattle.std.proofs.Common.{◌≡◌, ℕ, ◌+◌, ◌-◌, ◌*◌, ◌/◌, ◌%◌, List, length, take, drop, replicate, refl, ap, ◌∙◌, arith, length-drop}
use Rattle.std.proofs.lemmas.List.{take_at}
use Rattle.mbj_types.specs.Ghash.{ghash_from}
use Rattle.mbj_direct.specs.declared.hash.PartHash.{PartHash}
use Rattle.mbj_direct.proofs.BlockRuns.{whole, behind, first_blocks-chunks}
use Rattle.mbj_direct.proofs.Hashes.{hashed-next}
use Rattle.mbj_direct.proofs.hash.PartHash.take_blocks.Goals as goal

pub returns-clause-hashed : goal.returns-clause-hashed
returns-clause-hashed c xs text h =
    let s : PartHash = c.args.self.now in
    let part : List ℕ = c.args.part.now in
    let rest : List ℕ = c.as_chunks.result.1.now in
    let place : length part / 16 * 16 ≡ 16 * whole part = omega arith in
    let is : rest ≡ behind part = c.as_chunks.ensures.back ∙ ap (λ (k : ℕ). drop k part) place in
    let size : length rest ≡ (length text + length part) % 16 =
    ap length is ∙ length-drop (16 * whole part) part ∙ omega (arith, h.bytes) in
    hashed-next xs text part s _ 0 h (omega (arith, h.bytes)) refl
    (c.after_blocks-self.ensures
    ∙ ap (ghash_from s.subkey s.value) (c.as_chunks.ensures.front ∙ first_blocks-chunks (whole part) part))
    (ap (take ((length text + length part) % 16)) c.filled_block-self.ensures
    ∙ take_at rest (replicate (16 - length rest) 0) ((length text + length part) % 16) size
    ∙ is)
    refl
