-- The product of elements is commutative, associative and over a sum.
use Rattle.std.proofs.Common.{◌≡◌, Bool, true, false, List, [], ◌∷◌, length, refl, sym, ap, ap₂, ◌∙◌, arith}
use Rattle.mbj_types.specs.Field.{add, scale, zeros, product, times_x, multiple}
use Rattle.mbj_ghash.proofs.Sums.{length-add, scale_true, scale_false}
use Rattle.mbj_ghash.proofs.Multiples.{length-times_x, length-multiple, times_x-multiple}
use Rattle.mbj_ghash.proofs.Reductions.{reduced-whole, product-multiple}
use Rattle.mbj_ghash.proofs.Folding.{one, multiple-one, multiple-add}

multiple-zeros : (p : List Bool) → multiple p (zeros 128) ≡ zeros 128
unfolding times_x
multiple-zeros [] = refl
multiple-zeros (true ∷ p) = ap (add (zeros 128)) (multiple-zeros p)
multiple-zeros (false ∷ p) = ap (add (zeros 128)) (multiple-zeros p)

multiple-scale : (c : Bool) (p v : List Bool) → length v ≡ 128 → multiple p (scale c v) ≡ scale c (multiple p v)
multiple-scale true p v h = ap (multiple p) (scale_true v) ∙ sym (scale_true (multiple p v))
multiple-scale false p v h =
    ap (multiple p) (scale_false v ∙ ap zeros h) ∙ multiple-zeros p
    ∙ sym (scale_false (multiple p v) ∙ ap zeros (length-multiple p v h))

-- two factors in either order
multiple-swap : (p q v : List Bool) → length v ≡ 128 → multiple p (multiple q v) ≡ multiple q (multiple p v)
multiple-swap [] q v h = sym (multiple-zeros q)
multiple-swap (c ∷ p) q v h =
    ap₂ add (sym (multiple-scale c q v h))
    (ap (multiple p) (times_x-multiple q v h) ∙ multiple-swap p q (times_x v) (length-times_x v h))
    ∙ sym (multiple-add q (scale c v) (multiple p (times_x v)))

as_multiple : (p : List Bool) → length p ≡ 128 → multiple p one ≡ p
as_multiple p h = multiple-one p ∙ reduced-whole p h

pub length-product : (p q : List Bool) → length p ≡ 128 → length q ≡ 128 → length (product p q) ≡ 128
length-product p q h k = ap length (product-multiple p q h k) ∙ length-multiple p q k

pub product_comm : (p q : List Bool) → length p ≡ 128 → length q ≡ 128 → product p q ≡ product q p
product_comm p q h k =
    product-multiple p q h k ∙ ap (multiple p) (sym (as_multiple q k)) ∙ multiple-swap p q one refl
    ∙ ap (multiple q) (as_multiple p h) ∙ sym (product-multiple q p k h)

pub product-add : (p q v : List Bool) → length p ≡ 128 → length q ≡ 128 → length v ≡ 128
    → product (add p q) v ≡ add (product p v) (product q v)
product-add p q v h k l =
    let s : length (add p q) ≡ 128 = length-add p q ∙ omega (arith, h, k) in
    product_comm (add p q) v s l ∙ product-multiple v (add p q) l s ∙ multiple-add v p q
    ∙ ap₂ add (sym (product-multiple v p l h) ∙ product_comm v p l h) (sym (product-multiple v q l k)
    ∙ product_comm v q l k)

pub product_assoc : (p q v : List Bool) → length p ≡ 128 → length q ≡ 128 → length v ≡ 128
    → product (product p q) v ≡ product p (product q v)
product_assoc p q v h k l =
    product_comm (product p q) v (length-product p q h k) l
    ∙ product-multiple v (product p q) l (length-product p q h k) ∙ ap (multiple v) (product-multiple p q h k)
    ∙ multiple-swap v p q k
    ∙ ap (multiple p) (sym (product-multiple v q l k) ∙ product_comm v q l k)
    ∙ sym (product-multiple p (product q v) h (length-product q v k l))

-- ---- four steps of Horner's rule at once

module _ (h h2 h3 h4 : List Bool) (l : length h ≡ 128) (e2 : h2 ≡ product h h) (e3 : h3 ≡ product h2 h) (e4 : h4 ≡ product h3 h) where
  l2 : length h2 ≡ 128
  l2 = ap length e2 ∙ length-product h h l l

  l3 : length h3 ≡ 128
  l3 = ap length e3 ∙ length-product h2 h l2 l

  -- (a k + b) h
  step : (a k b : List Bool) → length a ≡ 128 → length k ≡ 128 → length b ≡ 128
      → product (add (product a k) b) h ≡ add (product a (product k h)) (product b h)
  step a k b la lk lb =
      product-add (product a k) b h (length-product a k la lk) lb l
      ∙ ap (λ t. add t (product b h)) (product_assoc a k h la lk l)

  pub four_steps : (a x2 x3 x4 : List Bool) → length a ≡ 128 → length x2 ≡ 128 → length x3 ≡ 128 → length x4 ≡ 128
      → product (add (product (add (product (add (product a h) x2) h) x3) h) x4) h
      ≡ add (add (add (product a h4) (product x2 h3)) (product x3 h2)) (product x4 h)
  four_steps a x2 x3 x4 la m2 m3 m4 =
      let two : product (add (product a h) x2) h ≡ add (product a h2) (product x2 h) =
      step a h x2 la l m2 ∙ ap (λ t. add (product a t) (product x2 h)) (sym e2) in
      let three : product (add (product (add (product a h) x2) h) x3) h
      ≡ add (add (product a h3) (product x2 h2)) (product x3 h) =
      ap (λ t. product (add t x3) h) two
      ∙ product-add (add (product a h2) (product x2 h)) x3 h
      (both (product a h2) (product x2 h) (length-product a h2 la l2) (length-product x2 h m2 l)) m3 l
      ∙ ap (λ t. add t (product x3 h)) (product-add (product a h2) (product x2 h) h (length-product a h2 la l2)
      (length-product x2 h m2 l) l
      ∙ ap₂ add (product_assoc a h2 h la l2 l ∙ ap (product a) (sym e3)) (product_assoc x2 h h m2 l l
      ∙ ap (product x2) (sym e2))) in
      let ah3 : List Bool = product a h3 in
      let xh2 : List Bool = product x2 h2 in
      let xh : List Bool = product x3 h in
      let la3 : length ah3 ≡ 128 = length-product a h3 la l3 in
      let lx2 : length xh2 ≡ 128 = length-product x2 h2 m2 l2 in
      let lx : length xh ≡ 128 = length-product x3 h m3 l in
      ap (λ t. product (add t x4) h) three
      ∙ product-add (add (add ah3 xh2) xh) x4 h (both (add ah3 xh2) xh (both ah3 xh2 la3 lx2) lx) m4 l
      ∙ ap (λ t. add t (product x4 h)) (product-add (add ah3 xh2) xh h (both ah3 xh2 la3 lx2) lx l
      ∙ ap₂ add (product-add ah3 xh2 h la3 lx2 l
      ∙ ap₂ add (product_assoc a h3 h la l3 l ∙ ap (product a) (sym e4)) (product_assoc x2 h2 h m2 l2 l
      ∙ ap (product x2) (sym e3)))
      (product_assoc x3 h h m3 l l ∙ ap (product x3) (sym e2)))
    where
      both : (p q : List Bool) → length p ≡ 128 → length q ≡ 128 → length (add p q) ≡ 128
      both p q lp lq = length-add p q ∙ omega (arith, lp, lq)
