-- The zero block is the sum of two.
use Rattle.std.proofs.Common.{[], ap, ap₂, ◌∙◌, arith}
use Rattle.std.proofs.lemmas.Simd.{get_or-replicate}
use Rattle.mbj_types.specs.Aes.{encipher}
use Rattle.mbj_types.specs.Blocks.{zero_block, xor_lists}
use Rattle.mbj_types.specs.declared.kind.TheConstants.{AES_LANES}
use Rattle.mbj_aes_lanes.proofs.slot_rounds.cmac_l_of.Goals as goal

pub returns : goal.returns
returns g c i h inside =
    let cipher = encipher (g.C.BlocksCipher.schedule_of c.args.cipher.now i) in
    let zero = get_or-replicate AES_LANES i zero_block [] (omega (arith, inside, c.requires)) in
    c.store.ensures i h ∙ c.chain.ensures i h ∙ ap cipher (ap₂ xor_lists zero (c.load-chains.ensures i h ∙ zero))
