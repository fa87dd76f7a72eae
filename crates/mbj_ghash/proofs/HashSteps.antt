-- The value of a hash after four blocks more, by the powers of the subkey.
use Rattle.std.proofs.Common.{◌≡◌, ℕ, Bool, List, [], ◌∷◌, length, slice_index, sym, ap, ap₂, ◌∙◌, arith}
use Rattle.std.specs.Int.{w128, from_be_bytes}
use Rattle.mbj_types.specs.Blocks.{xor_lists}
use Rattle.mbj_types.specs.Field.{add, zeros, product}
use Rattle.mbj_types.specs.Ghash.{element, block_product, square, cube, ghash_from}
use Rattle.mbj_aes.specs.Bytes.{IsBlock}
use Rattle.mbj_aes.proofs.States.{IsBlock-byte}
use Rattle.mbj_ghash.proofs.Sums.{add_comm, add_assoc, zeros_add}
use Rattle.mbj_ghash.proofs.Elements.{length-bits}
use Rattle.mbj_ghash.proofs.FieldLaws.{length-product, four_steps}
use Rattle.mbj_ghash.proofs.Numbers.{xored_byte, IsBlock-xor_lists, IsBlock-block_product, block_product-is, element-block_product}
use Rattle.mbj_ghash.proofs.ByteSums.{bytes-same, bytes-xor, element-bytes}

-- a block has 128 coefficients
pub long-element : (xs : List ℕ) → length (element xs) ≡ 128
long-element xs = length-bits 128 (from_be_bytes w128 xs)

element-xor_lists : (xs ys : List ℕ) → IsBlock xs → IsBlock ys → element (xor_lists xs ys) ≡ add (element xs) (element ys)
element-xor_lists xs ys b d =
    element-bytes (xor_lists xs ys) (IsBlock-byte (xor_lists xs ys) (IsBlock-xor_lists xs ys b d))
    ∙ bytes-same _ _ 16 (xored_byte xs ys b d) ∙ bytes-xor (slice_index xs) (slice_index ys) 16
    ∙ sym (ap₂ add (element-bytes xs (IsBlock-byte xs b)) (element-bytes ys (IsBlock-byte ys d)))

-- the empty sum adds nothing
pub none_added : (x h : List ℕ) → add (zeros 128) (product (element x) (element h)) ≡ product (element x) (element h)
none_added x h =
    zeros_add 128 (product (element x) (element h))
    (omega (arith, length-product (element x) (element h) (long-element x) (long-element h)))

-- four summands, the last one first
turned : (p q r s : List Bool) → add (add (add s r) q) p ≡ add (add (add p q) r) s
turned p q r s =
    add_comm (add (add s r) q) p ∙ ap (add p) (add_comm (add s r) q ∙ ap (add q) (add_comm s r))
    ∙ sym (add_assoc p q (add r s)) ∙ sym (add_assoc (add p q) r s)

pub four_blocks : (h v a b c d r : List ℕ) → IsBlock v → IsBlock a → IsBlock b → IsBlock c → IsBlock d → IsBlock r
    → let times : List ℕ → List ℕ → List Bool = λ x y. product (element x) (element y) in
    element r ≡ add (add (add (add (zeros 128) (times d h)) (times c (square h))) (times b (cube h)))
    (times (xor_lists v a) (block_product (cube h) h))
    → r ≡ ghash_from h v (a ∷ b ∷ c ∷ d ∷ [])
four_blocks h v a b c d r bv ba bb bc bd br e =
    let k : List Bool = element h in
    let times : List ℕ → List ℕ → List Bool = λ x y. product (element x) (element y) in
    let next : List ℕ → List ℕ → List ℕ = λ y x. block_product (xor_lists y x) h in
    let v1 : List ℕ = next v a in
    let v2 : List ℕ = next v1 b in
    let v3 : List ℕ = next v2 c in
    let step : (y x : List ℕ) → IsBlock x
    → element (xor_lists (block_product y h) x) ≡ add (product (element y) k) (element x) =
    λ y x bx. element-xor_lists (block_product y h) x (IsBlock-block_product y h) bx
    ∙ ap (λ p. add p (element x)) (element-block_product y h) in
    block_product-is r (xor_lists v3 d) h br
    (e ∙ ap (λ p. add (add (add p (times c (square h))) (times b (cube h))) (times (xor_lists v a) (block_product (cube h) h))) (none_added d h)
    ∙ turned (times (xor_lists v a) (block_product (cube h) h)) (times b (cube h)) (times c (square h)) (times d h)
    ∙ sym (four_steps k (element (square h)) (element (cube h)) (element (block_product (cube h) h)) (long-element h)
    (element-block_product h h) (element-block_product (square h) h) (element-block_product (cube h) h)
    (element (xor_lists v a)) (element b) (element c) (element d) (long-element (xor_lists v a)) (long-element b)
    (long-element c) (long-element d))
    ∙ sym (ap (λ p. product p k) (step (xor_lists v2 c) d bd
    ∙ ap (λ p. add (product p k) (element d)) (step (xor_lists v1 b) c bc
    ∙ ap (λ p. add (product p k) (element c)) (step (xor_lists v a) b bb)))))
