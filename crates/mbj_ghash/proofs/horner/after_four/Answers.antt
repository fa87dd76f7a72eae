-- The sum of the products by the powers is the value after the four blocks.
use Rattle.std.proofs.Common.{ℕ, Bool, List, ap, ap₂, ◌∙◌}
use Rattle.mbj_types.specs.Field.{add, product}
use Rattle.mbj_types.specs.Ghash.{element, block_product, square, cube}
use Rattle.mbj_aes.proofs.States.{IsBlock-told}
use Rattle.mbj_ghash.proofs.HashSteps.{four_blocks}
use Rattle.mbj_ghash.proofs.horner.after_four.Goals as goal

pub returns : goal.returns
returns x h are powers =
    let times : List ℕ → List ℕ → List Bool = λ x y. product (element x) (element y) in
    four_blocks h x.args.value.now x.args.a.now x.args.b.now x.args.c.now x.args.d.now x.reduced.result
    (IsBlock-told _ x.told-value (λ i l. x.fits-value i)) (IsBlock-told _ x.told-a (λ i l. x.fits-a i))
    (IsBlock-told _ x.told-b (λ i l. x.fits-b i)) (IsBlock-told _ x.told-c (λ i l. x.fits-c i))
    (IsBlock-told _ x.told-d (λ i l. x.fits-d i)) x.reduced.ensures.block
    (x.reduced.ensures.sum ∙ x.add-4.ensures (block_product (cube h) h) powers.fourth
    ∙ ap₂ add (x.add-3.ensures (cube h) powers.third
    ∙ ap (λ p. add p (times x.args.b.now (cube h))) (x.add-2.ensures (square h) powers.second
    ∙ ap (λ p. add p (times x.args.c.now (square h))) (x.add.ensures h are
    ∙ ap (λ p. add p (times x.args.d.now h)) x.new-sum.ensures)))
    (ap (λ y. times y (block_product (cube h) h)) x.xored.ensures))
