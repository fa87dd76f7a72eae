-- The halves are added, and what passes x^127 is folded back.
use Rattle.std.proofs.Common.{◌≡◌, ℕ, ◌+◌, ◌-◌, ◌/◌, ◌%◌, Bool, List, bit_xor, ap, ap₂, ◌∙◌, sym, arith}
use Rattle.mbj_types.specs.Field.{add, times_power, weighted}
use Rattle.mbj_types.specs.Ghash.{element}
use Rattle.mbj_types.specs.Lanes.{lane_at}
use Rattle.mbj_aes.specs.BlockWords.{block_byte, block_at}
use Rattle.mbj_aes.specs.Moves.{moved_up, moved_out}
use Rattle.mbj_ghash.specs.declared.rows.Register.{Register}
use Rattle.mbj_ghash.specs.Inside.{register}
use Rattle.mbj_ghash.proofs.Sums.{add_assoc, add_swap}
use Rattle.mbj_ghash.proofs.Multiples.{times_power-add}
use Rattle.mbj_ghash.proofs.WeightedSums.{weighted-same, weighted-split, power-swap}
use Rattle.mbj_ghash.proofs.ByteSums.{bytes, element-at, moved-same, out-same, move, move_whole}
use Rattle.mbj_ghash.proofs.BlockSums.{element-xored, element-told}
use Rattle.mbj_ghash.proofs.product_sum.Sum.reduced.Goals as goal

pub folded-requires : goal.folded-requires
folded-requires c =
    c.xored.ensures 15 (omega arith)
    ∙ ap₂ bit_xor
    (c.xored-high.ensures 15 (omega arith)
    ∙ ap₂ bit_xor (c.first_block-2.ensures 15 (omega arith) ∙ c.moved.ensures.rest 0 15 (omega arith) (omega arith) (omega arith))
    (c.moved_out.ensures 0 15 (omega arith) (omega arith)))
    (c.moved_up-2.ensures 0 15 (omega arith) (omega arith)
    ∙ c.second_block.ensures 7 (omega arith) ∙ c.moved.ensures.rest 1 7 (omega arith) (omega arith) (omega arith))

-- the sums of both halves, with x^128 times what passes x^127
regrouped : (t : List Bool → List Bool) → ((p q : List Bool) → t (add p q) ≡ add (t p) (t q)) → (i u o w z : List Bool)
    → add (add i u) (t (add (add o w) z)) ≡ add (add i (t o)) (add (add u (t w)) (t z))
regrouped t linear i u o w z =
    ap (add (add i u)) (linear (add o w) z ∙ ap (λ p. add p (t z)) (linear o w))
    ∙ sym (add_assoc (add i u) (add (t o) (t w)) (t z)) ∙ ap (λ p. add p (t z)) (add_swap i u (t o) (t w))
    ∙ add_assoc (add i (t o)) (add u (t w)) (t z)

pub returns-clause-sum : goal.returns-clause-sum
returns-clause-sum c =
    let places : List Register = c.args.self.now.places in
    let half : ℕ → ℕ → List Bool = λ b d. element (block_at (lane_at 8) (register places d) b) in
    let at : List ℕ → ℕ → List Bool = λ x b. element (block_at (lane_at 8) x b) in
    let inside : ℕ → ℕ = block_byte (lane_at 8) c.moved.result.inside 1 in
    let beyond : ℕ → ℕ = block_byte (lane_at 8) c.moved.result.beyond 1 in
    let i : List Bool = at c.moved.result.inside 0 in
    let o : List Bool = at c.moved.result.beyond 0 in
    let up : List Bool = bytes (moved_up 8 inside) 16 in
    let out : List Bool = bytes (moved_out 8 inside) 16 in
    let last : List Bool = bytes (moved_up 8 beyond) 16 in
    let x128 : List Bool → List Bool = times_power 128 in
    let low : at c.xored-low.result 0 ≡ add i up =
    element-xored 16 c.xored-low.result c.first_block.result c.moved_up.result 0 (omega arith) c.xored-low.ensures
    ∙ ap₂ add
    (element-told c.first_block.result 0 _ c.first_block.ensures ∙ sym (element-at c.moved.result.inside 0))
    (element-told c.moved_up.result 0 (moved_up 8 inside) (λ j h. c.moved_up.ensures 0 j (omega arith) h
    ∙ moved-same 8 _ inside j h c.second_block-upper.ensures)) in
    let high : at c.xored.result 0 ≡ add (add o out) last =
    element-xored 16 c.xored.result c.xored-high.result c.moved_up-2.result 0 (omega arith) c.xored.ensures
    ∙ ap₂ add
    (element-xored 16 c.xored-high.result c.first_block-2.result c.moved_out.result 0 (omega arith) c.xored-high.ensures
    ∙ ap₂ add
    (element-told c.first_block-2.result 0 _ c.first_block-2.ensures ∙ sym (element-at c.moved.result.beyond 0))
    (element-told c.moved_out.result 0 (moved_out 8 inside) (λ j h. c.moved_out.ensures 0 j (omega arith) h
    ∙ out-same 8 _ inside j (omega arith) c.second_block-upper.ensures)))
    (element-told c.moved_up-2.result 0 (moved_up 8 beyond) (λ j h. c.moved_up-2.ensures 0 j (omega arith) h
    ∙ moved-same 8 _ beyond j h c.second_block.ensures)) in
    let second : times_power 64 (weighted (half 1) 8) ≡ add (add up (x128 out)) (x128 last) =
    ap (times_power 64) (sym (c.moved.ensures.sum 1 (omega arith)))
    ∙ times_power-add 64 (at c.moved.result.inside 1) (x128 (at c.moved.result.beyond 1))
    ∙ ap₂ add (ap (times_power 64) (element-at c.moved.result.inside 1) ∙ sym (move inside 8 (omega arith)))
    (power-swap 64 128 (at c.moved.result.beyond 1) ∙ ap x128 (ap (times_power 64) (element-at c.moved.result.beyond 1)
    ∙ sym (move_whole beyond 8 (omega arith)
    (λ j h. c.moved.ensures.rest 1 (16 - 8 + j) (omega arith) (omega arith) (omega arith))))) in
    c.folded.ensures.sum ∙ ap₂ (λ p q. add p (x128 q)) low high ∙ regrouped x128 (times_power-add 128) i up o out last
    ∙ ap₂ add (c.moved.ensures.sum 0 (omega arith)) (sym second)
    ∙ sym (weighted-split (λ d. half (d / 8) (d % 8)) 8 8
    ∙ ap₂ (λ p q. add p (times_power 64 q))
    (weighted-same _ (half 0) 8 (λ d h.
    let b : d / 8 ≡ 0 = omega arith in
    let k : d % 8 ≡ d = omega arith in
    ap₂ half b k))
    (weighted-same _ (half 1) 8 (λ d h.
    let b : (8 + d) / 8 ≡ 1 = omega arith in
    let k : (8 + d) % 8 ≡ d = omega arith in
    ap₂ half b k)))
