-- CIPHER, round by round.
use Rattle.std.proofs.Common.{◌≡◌, ℕ, ◌+◌, ◌-◌, ◌*◌, ◌<◌, bit_xor, refl, sym, ap, ap₂, ◌∙◌, arith}
use Rattle.mbj_types.specs.Blocks.{xor_lists}
use Rattle.mbj_types.specs.Aes.{round_key, full_round, shift_rows, sub_bytes}
use Rattle.mbj_aes.specs.BlockWords.{block_byte}
use Rattle.mbj_aes.proofs.BlockWords.{within}
use Rattle.mbj_aes_lanes.specs.declared.narrow.layouts.TheConstants.{PLACES}
use Rattle.mbj_aes_lanes.specs.Inside.Layouts.{place}
use Rattle.mbj_aes_lanes.proofs.CipherRounds.{after-none, after-next, after-last, held_between, held_last}
use Rattle.mbj_aes_lanes.proofs.LaidSchedules.{key_of_round-first, key_of_round-last, key_of_round-between}
use Rattle.mbj_aes_lanes.proofs.LayoutPlaces.{place-lt, listed}
use Rattle.mbj_aes_lanes.proofs.LayoutRounds.{first_round_is, full_round_is, last_round_is}
use Rattle.mbj_aes_lanes.proofs.narrow.directions.EncryptionDirection.round.Goals as goal

pub returns-then-k-eq0 : goal.returns-then-k-eq0
returns-then-k-eq0 g c b w block h size key is =
    let B = λ (x : g.row.V.Denot). block_byte g.V.Lane8.lane x b in
    let small = λ (x : g.row.V.Denot) (j : ℕ). g.met.V.Lane8.fits x (16 * b + j) in
    let at : (j : ℕ) → j < 16 → 16 * b + j < g.V.Lane8.LANES = λ j k. within g.V.Lane8.LANES g.V.BlockWord.BLOCKS b j g.met.V.BlockWord.whole h k in
    held_between (omega arith) (omega arith)
    (rw c.if-k-eq0.true
    (first_round_is (B c.args.s) (B c.to_tower_byte.result) (B c.args.key) (B c.xored.result) (small c.to_tower_byte.result) (small c.args.key)
    (λ j k. c.to_tower_byte.ensures (16 * b + j) (at j k)) (λ j k. c.xored.ensures (16 * b + j) (at j k))
    ∙ ap₂ xor_lists (is.first (omega arith)) (sym (key_of_round-first c.args.n c.args.k _ _ _ (omega arith)) ∙ key ∙ ap (round_key w) c.if-k-eq0.true)
    ∙ after-none w block))

pub returns-then-k-n : goal.returns-then-k-n
unfolding place
returns-then-k-n g c b w block h size key is =
    let B = λ (x : g.row.V.Denot). block_byte g.V.Lane8.lane x b in
    let k : ℕ = c.args.k in
    let at : (j : ℕ) → j < 16 → 16 * b + j < g.V.Lane8.LANES = λ j k. within g.V.Lane8.LANES g.V.BlockWord.BLOCKS b j g.met.V.BlockWord.whole h k in
    held_last (omega arith)
    (last_round_is k (k - 1) (omega arith) (B c.args.s) (B c.xored-then-k-n.result) (B c.args.key)
    (λ j l. c.xored-then-k-n.ensures (16 * b + j) (at j l)
    ∙ ap (λ (x : ℕ). bit_xor x (B c.args.key j))
    (c.placed.ensures b j h l
    ∙ ap (B c.substituted_from_tower.result) (listed PLACES k j l refl)
    ∙ c.substituted_from_tower.ensures (16 * b + place k j) (at (place k j) (place-lt k j))))
    ∙ ap₂ (λ s k. xor_lists (shift_rows (sub_bytes s)) k) (is.between (omega arith) (omega arith))
    (sym (key_of_round-last c.args.n k _ _ _ (omega arith) (omega arith)) ∙ key)
    ∙ after-last w block k (omega (arith, size)))

pub returns-else-k-n : goal.returns-else-k-n
returns-else-k-n g c b w block h size key is =
    let B = λ (x : g.row.V.Denot). block_byte g.V.Lane8.lane x b in
    let small = λ (x : g.row.V.Denot) (j : ℕ). g.met.V.Lane8.fits x (16 * b + j) in
    let k : ℕ = c.args.k in
    let of = c.substituted_in_tower.result in
    let e = c.substituted_in_tower.ensures in
    let at : (j : ℕ) → j < 16 → 16 * b + j < g.V.Lane8.LANES = λ j k. within g.V.Lane8.LANES g.V.BlockWord.BLOCKS b j g.met.V.BlockWord.whole h k in
    let now : k + 1 - 1 ≡ k = omega arith in
    held_between (omega arith) (omega arith)
    (rw now
    (full_round_is k (k - 1) (omega arith) (B c.args.s) (B of.once) (B of.twice) (B c.args.key) (small of.once) (small of.twice) (small c.args.key)
    (λ j l. e.once (16 * b + j) (at j l)) (λ j l. e.twice (16 * b + j) (at j l)) (B c.mixed.result) (λ j l. c.mixed.ensures b j h l)
    ∙ ap₂ full_round (is.between (omega arith) (omega arith)) (sym (key_of_round-between c.args.n k _ _ _ (omega arith) (omega arith)) ∙ key)
    ∙ after-next w block (k - 1) k (omega arith)))
