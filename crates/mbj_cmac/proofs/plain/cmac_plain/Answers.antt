-- Each block before the last one is chained as it is, and the last one is closed.
use Rattle.std.proofs.Common.{◌≡◌, ℕ, List, ◌+◌, ◌-◌, ◌*◌, ◌/◌, length, take, drop, refl, ap, ◌∙◌, sym, arith, length-drop}
use Rattle.std.proofs.lemmas.List.{take_rest}
use Rattle.mbj_types.specs.Aes.{encipher}
use Rattle.mbj_types.specs.Blocks.{xor_lists, last_or}
use Rattle.mbj_types.specs.Modes.{cbc}
use Rattle.mbj_types.specs.Cmac.{closed, closed_block, message_blocks}
use Rattle.mbj_blocks.specs.Places.{block_of}
use Rattle.mbj_cmac.proofs.Messages.{closed-more, closed-last}
use Rattle.mbj_cmac.proofs.plain.cmac_plain.Goals as goal

pub chaining-init : goal.chaining-init
chaining-init c = (refl, refl)

pub chaining-preserved : goal.chaining-preserved
chaining-preserved c =
    let e : List ℕ → List ℕ = encipher c.args.key.now in
    let m : List ℕ = c.args.message.now in
    let i : ℕ = c.chaining.i in
    let left : List (List ℕ) = closed e (message_blocks (drop (16 * (i + 1)) m)) in
    let next : c.chained-chain.result ≡ e (xor_lists (block_of m i) c.chaining.chain) =
    c.chained-chain.ensures ∙ ap (λ b. e (xor_lists b c.chaining.chain)) c.block_at-block.ensures in (
      omega arith,
      ap (λ x. last_or x (cbc e x left)) next
          ∙ ap (λ bs. last_or c.chaining.chain (cbc e c.chaining.chain bs)) (sym (closed-more e m i (omega arith)))
          ∙ c.chaining.invariant.1,
    )

pub returns : goal.returns
returns c =
    let e : List ℕ → List ℕ = encipher c.args.key.now in
    let m : List ℕ = c.args.message.now in
    let end : c.saturating_sub-before.result / 16 ≡ c.chaining.i = omega arith in
    let left : List ℕ = drop (16 * c.chaining.i) m in
    let last : c.closed_block-last.result ≡ closed_block e left =
    c.closed_block-last.ensures ∙ ap (λ (n : ℕ). closed_block e (take (length m - 16 * n) (drop (16 * n) m))) end
    ∙ ap (closed_block e) (take_rest m (16 * c.chaining.i)) in
    c.chained.ensures ∙ ap (λ b. e (xor_lists b c.chaining.chain)) last
    ∙ ap (λ bs. last_or c.chaining.chain (cbc e c.chaining.chain bs))
    (sym (closed-last e left (omega (arith, length-drop (16 * c.chaining.i) m))))
    ∙ c.chaining.invariant.1
