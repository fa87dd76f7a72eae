-- A whole block is hashed.
use Rattle.std.proofs.Common.{◌≡◌, ℕ, ◌/◌, List, [], ◌∷◌, sym, ap, ◌∙◌, arith}
use Rattle.std.proofs.lemmas.List.{take_all}
use Rattle.mbj_types.specs.Blocks.{first_blocks}
use Rattle.mbj_types.specs.Ghash.{ghash_from}
use Rattle.mbj_direct.proofs.hash.PartHash.value_at.Goals as goal

pub returns-then-end-lt-BLOCK_BYTES : goal.returns-then-end-lt-BLOCK_BYTES
returns-then-end-lt-BLOCK_BYTES c =
    let none : c.args.end / 16 ≡ 0 = omega arith in
    ap (λ (k : ℕ). ghash_from c.args.self.now.subkey c.args.self.now.value (first_blocks k c.args.self.now.last)) (sym none)

pub returns : goal.returns
returns c =
    let last : List ℕ = c.args.self.now.last in
    let one : c.args.end / 16 ≡ 1 = omega arith in
    c.after_block.ensures
    ∙ ap (ghash_from c.args.self.now.subkey c.args.self.now.value) (ap (λ b. b ∷ []) (sym (take_all 16 last (omega arith)))
    ∙ ap (λ (k : ℕ). first_blocks k last) (sym one))
