-- The first block is taken by itself, and the others go on from it.
use Rattle.std.proofs.Common.{◌≡◌, ℕ, ◌<◌, List, [], length, drop, sym, ap, ◌∙◌, arith}
use Rattle.std.proofs.lemmas.Bool.{eqb-true, eqb-false}
use Rattle.std.proofs.lemmas.List.{nil_from_length, drop_more, take_rest}
use Rattle.mbj_types.specs.Ghash.{ghash_from}
use Rattle.mbj_ghash.specs.State.{HashState}
use Rattle.mbj_direct.proofs.hash.after_blocks.Goals as goal

pub returns-then-is_empty : goal.returns-then-is_empty
returns-then-is_empty c =
    let blocks : List (List ℕ) = c.args.blocks.now in
    let none : blocks ≡ [] = nil_from_length blocks (eqb-true (length blocks) 0 (sym c.is_empty.ensures ∙ c.if-is_empty.true)) in
    ap (ghash_from c.args.subkey.now c.args.value.now) (sym none)

pub returns : goal.returns
returns c =
    let h : List ℕ = c.args.subkey.now in
    let y : List ℕ = c.args.value.now in
    let blocks : List (List ℕ) = c.args.blocks.now in
    let some : 0 < length blocks = omega (arith, eqb-false (length blocks) 0 (sym c.is_empty.ensures ∙ c.if-is_empty.false)) in
    let after : HashState → List ℕ = λ s. ghash_from s.subkey s.value (drop 1 blocks) in
    c.value.ensures.value
    ∙ ap (λ (s : HashState). s.value) c.update_blocks.ensures.next
    ∙ ap (ghash_from c.resumed-hash.result.subkey c.resumed-hash.result.value) (take_rest blocks 1)
    ∙ ap after c.resumed-hash.ensures
    ∙ ap (ghash_from h y) (sym (drop_more blocks 0 [] some))
