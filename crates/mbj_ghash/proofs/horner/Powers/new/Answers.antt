-- Each power is the one before it times the subkey.
use Rattle.std.proofs.Common.{◌≡◌, ap, ◌∙◌, subst, List, ℕ}
use Rattle.mbj_types.specs.Ghash.{block_product, square, cube}
use Rattle.mbj_ghash.specs.Inside.{AreRowsOf}
use Rattle.mbj_ghash.proofs.horner.Powers.new.Goals as goal

pub returns : goal.returns
returns c are =
    let h : List ℕ = c.args.subkey.now in
    let times : List ℕ → List ℕ = λ x. block_product x h in
    let e2 : c.product-second.result ≡ square h = c.product-second.ensures h are in
    let e3 : c.product-third.result ≡ cube h = c.product-third.ensures h are ∙ ap times e2 in
    let e4 : c.product-fourth.result ≡ block_product (cube h) h = c.product-fourth.ensures h are ∙ ap times e3 in
    record {
      second = subst (λ x. AreRowsOf x c.new.result) e2 c.new.ensures;
      third = subst (λ x. AreRowsOf x c.new-2.result) e3 c.new-2.ensures;
      fourth = subst (λ x. AreRowsOf x c.new-3.result) e4 c.new-3.ensures;
    }
