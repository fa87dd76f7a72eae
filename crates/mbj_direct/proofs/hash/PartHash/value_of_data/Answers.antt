-- The block of lengths is hashed last.
use Rattle.std.proofs.Common.{◌≡◌, ℕ, ◌*◌, ◌%◌, ◌^◌, List, [], ◌∷◌, ◌++◌, length, sym, ap, ap₂, ◌∙◌, arith}
use Rattle.std.specs.Int.{w64, to_be_bytes}
use Rattle.mbj_types.specs.Blocks.{filled_blocks, zero_block}
use Rattle.mbj_types.specs.Ghash.{ghash_from}
use Rattle.mbj_types.specs.Gcm.{bit_length}
use Rattle.mbj_direct.specs.declared.hash.PartHash.{PartHash}
use Rattle.mbj_direct.proofs.BlockRuns.{ghash_from-append}
use Rattle.mbj_direct.proofs.hash.PartHash.value_of_data.Goals as goal

pub returns : goal.returns
returns c aad h =
    let s : PartHash = c.args.self.now in
    let last : List ℕ = bit_length (length aad) ++ bit_length 0 in
    let bits : 8 * s.bytes % 2 ^ 64 ≡ 8 * length aad % 2 ^ 64 = omega (arith, h.bytes) in
    let is : c.length_block.result ≡ last =
    c.length_block.ensures ∙ ap (λ (n : ℕ). to_be_bytes w64 n ++ bit_length 0) bits in
    c.after_block.ensures
    ∙ ap₂ (λ y b. ghash_from s.subkey y (b ∷ [])) (c.closed-closed.ensures [] aad h) is
    ∙ sym (ghash_from-append s.subkey zero_block (filled_blocks aad) (last ∷ []))
