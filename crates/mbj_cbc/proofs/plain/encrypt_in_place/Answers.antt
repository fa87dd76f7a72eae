-- One block more is encrypted in each turn, and at the end all are.
use Rattle.std.proofs.Common.{◌≡◌, List, ℕ, ◌∷◌, ap, ◌∙◌, sym, refl, arith}
use Rattle.mbj_types.specs.Blocks.{xor_lists}
use Rattle.mbj_types.specs.Aes.{encipher}
use Rattle.mbj_types.specs.Modes.{cbc}
use Rattle.mbj_blocks.specs.Places.{block_of}
use Rattle.mbj_blocks.proofs.Walk.{walk_step, walk_end}
use Rattle.mbj_cbc.proofs.plain.encrypt_in_place.Goals as goal

pub encrypting-preserved : goal.encrypting-preserved
encrypting-preserved c =
    let e : List ℕ → List ℕ = encipher c.args.key.now in
    let sealed : e (xor_lists (block_of c.encrypting.text c.encrypting.i) c.encrypting.chain) ≡ c.chained-chain.result =
    sym (c.chained-chain.ensures ∙ ap (λ b. e (xor_lists b c.encrypting.chain)) c.block_at-block.ensures) in (
      omega arith,
      walk_step (cbc e c.encrypting.chain) (cbc e c.chained-chain.result) c.encrypting.text c.chained-chain.result _ _
          c.encrypting.i (omega arith) (omega arith) (λ bs. ap (λ b. b ∷ cbc e b bs) sealed) c.put_block.ensures
          c.encrypting.invariant.1,
    )

pub returns : goal.returns
returns c =
    walk_end (cbc (encipher c.args.key.now) c.encrypting.chain) c.encrypting.text _ c.encrypting.i refl (omega arith)
    c.encrypting.invariant.1
