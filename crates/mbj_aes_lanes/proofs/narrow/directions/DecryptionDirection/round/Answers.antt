-- INVCIPHER, round by round.
use Rattle.std.proofs.Common.{◌≡◌, ℕ, ◌+◌, ◌-◌, ◌*◌, ◌%◌, ◌<◌, List, bit_xor, refl, sym, ap, ap₂, ◌∙◌, arith}
use Rattle.mbj_types.specs.Blocks.{xor_lists}
use Rattle.mbj_types.specs.Aes.{round_key, undone_round, undone_rounds, inv_shift_rows, inv_sub_bytes}
use Rattle.mbj_aes.specs.BlockWords.{block_byte}
use Rattle.mbj_aes.proofs.BlockWords.{within}
use Rattle.mbj_aes_lanes.specs.declared.narrow.layouts.TheConstants.{PLACES}
use Rattle.mbj_aes_lanes.specs.Inside.Layouts.{place, inverse_state}
use Rattle.mbj_aes_lanes.proofs.CipherRounds.{undone-none, undone-next, undone-all, held_between, held_last}
use Rattle.mbj_aes_lanes.proofs.InverseRounds.{inverse_first_round_is, inverse_last_round_is, inverse_round_is}
use Rattle.mbj_aes_lanes.proofs.LaidSchedules.{key_of_round-first, key_of_round-last, key_of_round-between}
use Rattle.mbj_aes_lanes.proofs.LayoutPlaces.{place-lt, place-back, listed}
use Rattle.mbj_aes_lanes.proofs.narrow.directions.DecryptionDirection.round.Goals as goal

pub returns-then-k-eq0 : goal.returns-then-k-eq0
unfolding place
returns-then-k-eq0 g c b w block h size key is =
    let B = λ (x : g.row.V.Denot). block_byte g.V.Lane8.lane x b in
    let small = λ (x : g.row.V.Denot) (j : ℕ). g.met.V.Lane8.fits x (16 * b + j) in
    let at : (j : ℕ) → j < 16 → 16 * b + j < g.V.Lane8.LANES = λ j k. within g.V.Lane8.LANES g.V.BlockWord.BLOCKS b j g.met.V.BlockWord.whole h k in
    let n : ℕ = c.args.n in
    let from : n - c.args.k ≡ n = omega arith in
    let to : n - (c.args.k + 1) ≡ n - 1 = omega arith in
    held_between (omega arith) (omega arith)
    (rw to
    (ap (λ s. undone_rounds w s (n - 1))
    (inverse_last_round_is n (n - 1) (omega arith) (B c.args.s) (B c.in_decryption.result) (B c.args.key) (B c.placed.result)
    (small c.in_decryption.result) (small c.args.key) (λ j l. c.in_decryption.ensures (16 * b + j) (at j l))
    (λ j l.
    c.placed.ensures b (place n j) h (place-lt n j)
    ∙ ap (B c.xored.result) (listed PLACES (4 - n % 4) (place n j) (place-lt n j) refl ∙ place-back n j l)
    ∙ c.xored.ensures (16 * b + j) (at j l))
    ∙ ap₂ (λ s k. inv_sub_bytes (inv_shift_rows (xor_lists s k))) (is.first (omega arith))
    (sym (key_of_round-last n (n - c.args.k) _ _ _ (omega arith) from) ∙ key ∙ ap (round_key w) from))
    ∙ undone-all w block n (omega (arith, size))))

pub returns-then-k-n : goal.returns-then-k-n
returns-then-k-n g c b w block h size key is =
    let B = λ (x : g.row.V.Denot). block_byte g.V.Lane8.lane x b in
    let at : (j : ℕ) → j < 16 → 16 * b + j < g.V.Lane8.LANES = λ j k. within g.V.Lane8.LANES g.V.BlockWord.BLOCKS b j g.met.V.BlockWord.whole h k in
    let n : ℕ = c.args.n in
    let none : n - c.args.k ≡ 0 = omega arith in
    let before = rw none at (is.between (omega arith) (omega arith)) in
    held_last (omega arith)
    (inverse_first_round_is (B c.args.s) (B c.args.key) (B c.xored-then-k-n.result)
    (λ j l. c.xored-then-k-n.ensures (16 * b + j) (at j l)
    ∙ ap (λ (x : ℕ). bit_xor x (B c.args.key j)) (c.inverse_from_decryption.ensures (16 * b + j) (at j l)))
    ∙ ap (xor_lists (inverse_state 0 (B c.args.s))) (sym (key_of_round-first n (n - c.args.k) _ _ _ none) ∙ key ∙ ap (round_key w) none)
    ∙ undone-none w (inverse_state 0 (B c.args.s))
    ∙ before)

pub returns-else-k-n : goal.returns-else-k-n
returns-else-k-n g c b w block h size key is =
    let B = λ (x : g.row.V.Denot). block_byte g.V.Lane8.lane x b in
    let small = λ (x : g.row.V.Denot) (j : ℕ). g.met.V.Lane8.fits x (16 * b + j) in
    let at : (j : ℕ) → j < 16 → 16 * b + j < g.V.Lane8.LANES = λ j k. within g.V.Lane8.LANES g.V.BlockWord.BLOCKS b j g.met.V.BlockWord.whole h k in
    let of = c.inverse_multiples.result in
    let e = c.inverse_multiples.ensures in
    let r : ℕ = c.args.n - c.args.k in
    let before : List ℕ = inverse_state r (B c.args.s) in
    let to : c.args.n - (c.args.k + 1) ≡ r - 1 = omega arith in
    held_between (omega arith) (omega arith)
    (rw to
    (ap (λ s. undone_rounds w s (r - 1))
    (inverse_round_is (B c.args.s) (B of.nine) (B of.eleven) (B of.thirteen) (B of.fourteen) (B c.args.key)
    (small of.nine) (small of.eleven) (small of.thirteen) (small of.fourteen) (small c.args.key)
    (λ j l. e.nine (16 * b + j) (at j l)) (λ j l. e.eleven (16 * b + j) (at j l))
    (λ j l. e.thirteen (16 * b + j) (at j l)) (λ j l. e.fourteen (16 * b + j) (at j l))
    r (B c.inv_mixed.result) (λ j l. c.inv_mixed.ensures b j h l) (r - 1) (omega arith)
    ∙ ap (undone_round before) (sym (key_of_round-between c.args.n r _ _ _ (omega arith) (omega arith)) ∙ key))
    ∙ undone-next w before (r - 1) r (omega arith)
    ∙ is.between (omega arith) (omega arith)))
