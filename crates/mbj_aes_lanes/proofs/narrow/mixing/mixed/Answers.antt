use Rattle.std.proofs.Common.{◌≡◌, ℕ, ◌+◌, ◌*◌, ◌%◌, ◌<◌, [], slice_index, get_or, refl, arith}
use Rattle.mbj_aes.proofs.BlockWords.{within}
use Rattle.mbj_aes_lanes.specs.declared.narrow.layouts.TheConstants.{NEXT_ROW, ROW_AFTER_NEXT}
use Rattle.mbj_aes_lanes.specs.Inside.Layouts.{place, next_row}
use Rattle.mbj_aes_lanes.proofs.LayoutPlaces.{place-lt, tabled}
use Rattle.mbj_aes_lanes.proofs.narrow.mixing.mixed.Goals as goal

pub returns : goal.returns
unfolding place
returns g c b j h k =
    let r : ℕ = c.args.r in
    let at : (i : ℕ) → 16 * b + place r i < g.V.Lane8.LANES = λ i.
    within g.V.Lane8.LANES g.V.BlockWord.BLOCKS b (place r i) g.met.V.BlockWord.whole h (place-lt r i) in
    let next : (i : ℕ) → i < 16 → slice_index (get_or NEXT_ROW (r % 4) []) (place r i) ≡ place r (next_row i) = λ i l.
    tabled NEXT_ROW (λ j. next_row j) r i l refl in
    let after : (i : ℕ) → i < 16 → slice_index (get_or ROW_AFTER_NEXT (r % 4) []) (place r i) ≡ place r (next_row (next_row i)) = λ i l.
    tabled ROW_AFTER_NEXT (λ j. next_row (next_row j)) r i l refl in
    let n : ℕ = next_row j in
    cc (
      c.xored-3.ensures (16 * b + place r j) (at j),
      c.xored.ensures (16 * b + place r j) (at j),
      c.placed-2.ensures b (place r j) h (place-lt r j),
      next j k,
      c.xored-2.ensures (16 * b + place r n) (at n),
      c.xored-two.ensures (16 * b + place r j) (at j),
      c.placed.ensures b (place r j) h (place-lt r j),
      after j k,
      c.xored-two.ensures (16 * b + place r n) (at n),
      c.placed.ensures b (place r n) h (place-lt r n),
      after n (omega arith),
    )
