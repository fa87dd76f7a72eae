-- The whole blocks are taken, and then the last one, if it isn't whole.
use Rattle.std.proofs.Common.{◌≡◌, ℕ, ◌*◌, ◌/◌, ◌%◌, ◌<◌, List, [], ◌∷◌, ◌++◌, length, drop, sym, ap, ap₂, ◌∙◌, arith}
use Rattle.std.proofs.lemmas.Bool.{eqb-true, eqb-false}
use Rattle.mbj_types.specs.Blocks.{filled_block, filled_blocks}
use Rattle.mbj_types.specs.Ghash.{ghash_from}
use Rattle.mbj_ghash.specs.State.{HashState}
use Rattle.mbj_ghash.proofs.BlockRuns.{ghash_from-append, filled_blocks-whole, filled_blocks-last}
use Rattle.mbj_ghash.proofs.States.{state_after-more}
use Rattle.mbj_ghash.proofs.ghash.Ghash.update_padded.Goals as goal

-- the blocks that are taken are those of the bytes
pub returns-then-not-is_empty-clause-next : goal.returns-then-not-is_empty-clause-next
returns-then-not-is_empty-clause-next c =
    let bytes : List ℕ = c.args.bytes.now in
    let s : HashState = c.args.self.now in
    let after : HashState → List (List ℕ) → HashState = λ t xs. record t { value = ghash_from t.subkey t.value xs } in
    let rest : 0 < length bytes % 16 =
    omega (
      arith,
      eqb-false (length c.as_chunks.result.1.now) 0 (sym c.is_empty.ensures
          ∙ c.if-not-is_empty.true),
      c.as_chunks.ensures.back_len,
    ) in
    let last : c.filled_block.result ≡ filled_block (drop (length bytes / 16 * 16) bytes) =
    c.filled_block.ensures ∙ ap filled_block c.as_chunks.ensures.back in
    let blocks : List (List ℕ) = c.as_chunks.result.0.now in
    c.update_block.ensures.next ∙ ap (λ t. after t (c.filled_block.result ∷ [])) c.update_blocks.ensures.next
    ∙ ap (λ (y : List ℕ). record s { value = y })
    (sym (ghash_from-append s.subkey s.value blocks (c.filled_block.result ∷ []))
    ∙ ap (ghash_from s.subkey s.value) (ap₂ (λ xs x. xs ++ x ∷ []) c.as_chunks.ensures.front last
    ∙ sym (filled_blocks-last bytes rest)))

pub returns-else-not-is_empty-clause-next : goal.returns-else-not-is_empty-clause-next
returns-else-not-is_empty-clause-next c =
    let bytes : List ℕ = c.args.bytes.now in
    let s : HashState = c.args.self.now in
    let rest : length bytes % 16 ≡ 0 =
    omega (
      arith,
      eqb-true (length c.as_chunks.result.1.now) 0 (sym c.is_empty.ensures
          ∙ c.if-not-is_empty.false),
      c.as_chunks.ensures.back_len,
    ) in
    c.update_blocks.ensures.next
    ∙ ap (λ xs. record s { value = ghash_from s.subkey s.value xs }) (c.as_chunks.ensures.front
    ∙ sym (filled_blocks-whole bytes rest))

pub returns-then-not-is_empty-clause-so_far : goal.returns-then-not-is_empty-clause-so_far
returns-then-not-is_empty-clause-so_far c h xs e =
    state_after-more c.args.self.now c.update_block.new.self h xs (filled_blocks c.args.bytes.now) e
    (returns-then-not-is_empty-clause-next c)

pub returns-else-not-is_empty-clause-so_far : goal.returns-else-not-is_empty-clause-so_far
returns-else-not-is_empty-clause-so_far c h xs e =
    state_after-more c.args.self.now c.update_blocks.new.self h xs (filled_blocks c.args.bytes.now) e
    (returns-else-not-is_empty-clause-next c)
