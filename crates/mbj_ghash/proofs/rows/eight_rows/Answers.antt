-- Each row has its byte of the multiple at each half byte.
use Rattle.std.proofs.Common.{◌≡◌, ℕ, ◌+◌, ◌*◌, ◌/◌, ◌%◌, ◌<◌, List, [], ◌∷◌, length, refl, sym, ap, ◌∙◌, arith}
use Rattle.std.specs.Int.{w128, from_be_bytes}
use Rattle.mbj_types.specs.Lanes.{lane_at, lane_at-lt}
use Rattle.mbj_aes.specs.BlockWords.{block_byte, block_at}
use Rattle.mbj_ghash.specs.declared.rows.Register.{Register}
use Rattle.mbj_types.specs.Field.{times_power}
use Rattle.mbj_ghash.specs.Inside.{register}
use Rattle.mbj_ghash.proofs.Elements.{length-bits}
use Rattle.mbj_ghash.proofs.ByteSums.{element-with, bytes-same}
use Rattle.mbj_ghash.proofs.TableEntries.{each_of_eight, row_entry, taken_sum, both_bytes, multiple-bytes}
use Rattle.mbj_ghash.proofs.rows.eight_rows.Goals as goal

pub returns : goal.returns
unfolding times_power
returns c p f0 f1 f2 f3 n h =
    let x0 : List ℕ = c.args.by_1 in
    let x1 : List ℕ = c.args.by_x in
    let x2 : List ℕ = c.args.by_x2 in
    let x3 : List ℕ = c.args.by_x3 in
    let g : List ℕ → ℕ → ℕ = λ x d. block_byte (lane_at 8) x (d / 8) d in
    let rows : List Register = c.row.result ∷ c.row-2.result ∷ c.row-3.result ∷ c.row-4.result ∷ c.row-5.result ∷ c.row-6.result ∷ c.row-7.result ∷ c.row-8.result ∷ [] in
    let first_four = row_entry x0 x1 x2 x3 c.pairs-low.result c.pairs-high.result 0 c.pairs-low.ensures c.pairs-high.ensures in
    let next_four = row_entry x0 x1 x2 x3 c.pairs-next_low.result c.pairs-next_high.result 4 c.pairs-next_low.ensures c.pairs-next_high.ensures in
    let at : (d : ℕ) → d < 16 → block_byte (lane_at 8) (register rows (d % 8)) (d / 8) n ≡ taken_sum n (g x0 d) (g x1 d) (g x2 d) (g x3 d) =
    λ d l.
    each_of_eight
    (λ k. d % 8 ≡ k → block_byte (lane_at 8) (register rows k) (d / 8) n ≡ taken_sum n (g x0 d) (g x1 d) (g x2 d) (g x3 d))
    (λ e. first_four 0 0 c.row.result.bytes (omega arith) refl c.row.ensures d n l e h)
    (λ e. first_four 1 1 c.row-2.result.bytes (omega arith) refl c.row-2.ensures d n l e h)
    (λ e. first_four 2 2 c.row-3.result.bytes (omega arith) refl c.row-3.ensures d n l e h)
    (λ e. first_four 3 3 c.row-4.result.bytes (omega arith) refl c.row-4.ensures d n l e h)
    (λ e. next_four 0 4 c.row-5.result.bytes (omega arith) refl c.row-5.ensures d n l e h)
    (λ e. next_four 1 5 c.row-6.result.bytes (omega arith) refl c.row-6.ensures d n l e h)
    (λ e. next_four 2 6 c.row-7.result.bytes (omega arith) refl c.row-7.ensures d n l e h)
    (λ e. next_four 3 7 c.row-8.result.bytes (omega arith) refl c.row-8.ensures d n l e h)
    (d % 8) (omega arith) refl in
    let long : length p ≡ 128 = ap length (sym (f0 0 (omega arith))) ∙ length-bits 128 (from_be_bytes w128 (block_at (lane_at 8) x0 0)) in
    element-with (λ d. block_byte (lane_at 8) (register rows (d % 8)) (d / 8) n) (λ d. lane_at-lt 8 (register rows (d % 8)) (16 * (d / 8) + n))
    ∙ bytes-same _ _ 16 at
    ∙ multiple-bytes p (times_power 1 p) (times_power 2 p) (times_power 3 p) long refl refl refl n (g x0) (g x1) (g x2) (g x3) h
    (both_bytes p x0 f0) (both_bytes (times_power 1 p) x1 f1) (both_bytes (times_power 2 p) x2 f2) (both_bytes (times_power 3 p) x3 f3)
