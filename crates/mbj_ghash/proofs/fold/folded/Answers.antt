-- What passes x^127 is folded back byte by byte.
use Rattle.std.proofs.Common.{◌≡◌, ℕ, ◌+◌, ◌*◌, ◌<◌, bit_xor, ap, ap₂, ◌∙◌, sym, arith}
use Rattle.mbj_types.specs.Field.{add, times_power}
use Rattle.mbj_types.specs.Ghash.{element}
use Rattle.mbj_types.specs.Lanes.{lane_at, lane_at-lt}
use Rattle.mbj_aes.specs.BlockWords.{block_byte}
use Rattle.mbj_aes.specs.Moves.{moved_up}
use Rattle.mbj_ghash.proofs.Sums.{add_assoc}
use Rattle.mbj_ghash.proofs.Numbers.{IsBlock-in_register}
use Rattle.mbj_ghash.proofs.ByteSums.{bytes, element-at, bytes-same, bytes-xor, moved-same, bytes_folded, first, next}
use Rattle.mbj_ghash.proofs.fold.folded.Goals as goal

pub returns-clause-block : goal.returns-clause-block
returns-clause-block c = rw c.bytes_of.ensures (IsBlock-in_register c.xored-2.result 0)

pub returns-clause-sum : goal.returns-clause-sum
returns-clause-sum c =
    let low : ℕ → ℕ = block_byte (lane_at 8) c.args.low 0 in
    let high : ℕ → ℕ = block_byte (lane_at 8) c.args.high 0 in
    let f : ℕ → ℕ = λ j. first (high j) in
    let u : ℕ → ℕ = moved_up 1 (λ j. next (high j)) in
    let byte : (j : ℕ) → j < 16 → block_byte (lane_at 8) c.xored-2.result 0 j ≡ bit_xor (bit_xor (low j) (f j)) (u j) =
    λ j h.
    let here : 16 * 0 + j < 16 = omega arith in
    c.xored-2.ensures (16 * 0 + j) here
    ∙ ap₂ bit_xor (c.xored.ensures (16 * 0 + j) here ∙ ap (bit_xor (low j)) (c.by_halves-first.ensures (16 * 0 + j) here))
    (c.moved_up.ensures 0 j (omega arith) h
    ∙ moved-same 1 _ (λ j. next (high j)) j h (λ i l. c.by_halves-next.ensures (16 * 0 + i) (omega arith))) in
    ap element c.bytes_of.ensures ∙ element-at c.xored-2.result 0 ∙ bytes-same _ _ 16 byte
    ∙ bytes-xor (λ j. bit_xor (low j) (f j)) u 16 ∙ ap (λ p. add p (bytes u 16)) (bytes-xor low f 16)
    ∙ add_assoc (bytes low 16) (bytes f 16) (bytes u 16)
    ∙ sym (ap₂ (λ p q. add p q) (element-at c.args.low 0)
    (ap (times_power 128) (element-at c.args.high 0)
    ∙ bytes_folded high (λ i. lane_at-lt 8 c.args.high (16 * 0 + i)) c.requires))
