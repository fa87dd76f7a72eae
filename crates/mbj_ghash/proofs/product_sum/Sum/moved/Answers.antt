-- One place more is moved and added.
use Rattle.std.proofs.Common.{◌≡◌, ℕ, suc, ◌+◌, ◌*◌, ◌≤◌, List, Bool, bit_xor, ap, ap₂, ◌∙◌, sym, arith}
use Rattle.std.proofs.lemmas.Bool.Decides.{nat_tests}
use Rattle.mbj_types.specs.Field.{add, zeros, times_power, weighted}
use Rattle.mbj_types.specs.Ghash.{element}
use Rattle.mbj_types.specs.Lanes.{lane_at}
use Rattle.mbj_types.proofs.Vectors.{replicate_at}
use Rattle.mbj_aes.specs.BlockWords.{block_byte, block_at}
use Rattle.mbj_aes.specs.Moves.{moved_up, moved_out}
use Rattle.mbj_ghash.specs.Inside.{register}
use Rattle.mbj_ghash.proofs.Sums.{add_swap}
use Rattle.mbj_ghash.proofs.Multiples.{times_power-add}
use Rattle.mbj_ghash.proofs.WeightedSums.{power-zeros}
use Rattle.mbj_ghash.proofs.ByteSums.{bytes, element-at, move}
use Rattle.mbj_ghash.proofs.BlockSums.{element-xored, element-told, element-none}
use Rattle.mbj_ghash.proofs.product_sum.Sum.moved.Goals as goal

pub loop-d-init : goal.loop-d-init
unfolding weighted
loop-d-init c =
    record {
      sum = λ b h. ap₂ (λ p q. add p (times_power 128 q)) (element-none b h) (element-none b h) ∙ ap (add (zeros 128)) (power-zeros 128);
      rest = λ b j h k l. replicate_at 8 32 0 (16 * b + j) (omega arith) (omega arith);
    }

pub loop-d-preserved : goal.loop-d-preserved
unfolding weighted
loop-d-preserved c =
    let d : ℕ = c.loop-d.d in
    let place : List ℕ = register c.args.self.now.places c.loop-d.d in
    let one_more : suc c.loop-d.d ≡ c.loop-d.d + 1 = omega arith in
    let none : (g : ℕ → ℕ) (j : ℕ) → 7 ≤ j → moved_out c.loop-d.d g j ≡ 0 = λ g j h. grind (arith, nat_tests) in
    record {
      sum = λ b h.
          let g : ℕ → ℕ = block_byte (lane_at 8) place b in
          let i : List Bool = element (block_at (lane_at 8) c.loop-d.inside b) in
          let o : List Bool = element (block_at (lane_at 8) c.loop-d.beyond b) in
          let up : List Bool = bytes (moved_up d g) 16 in
          let out : List Bool = bytes (moved_out d g) 16 in
          ap₂ (λ p q. add p (times_power 128 q))
          (element-xored 32 c.xored-inside.result c.loop-d.inside c.moved_up.result b (omega arith) c.xored-inside.ensures
          ∙ ap (add i) (element-told c.moved_up.result b (moved_up d g) (λ j l. c.moved_up.ensures b j h l)))
          (element-xored 32 c.xored-beyond.result c.loop-d.beyond c.moved_out.result b (omega arith) c.xored-beyond.ensures
          ∙ ap (add o) (element-told c.moved_out.result b (moved_out d g) (λ j l. c.moved_out.ensures b j h l)))
          ∙ ap (add (add i up)) (times_power-add 128 o out) ∙ add_swap i up (times_power 128 o) (times_power 128 out)
          ∙ ap₂ add (c.loop-d.invariant.sum b h) (move g d (omega arith) ∙ ap (times_power (8 * d)) (sym (element-at place b)))
          ∙ ap (weighted (λ d. element (block_at (lane_at 8) (register c.args.self.now.places d) b))) one_more;
      rest = λ b j h k l.
          c.xored-beyond.ensures (16 * b + j) (omega arith)
          ∙ ap₂ bit_xor (c.loop-d.invariant.rest b j h k l)
          (c.moved_out.ensures b j h l ∙ none (block_byte (lane_at 8) place b) j k);
    }
