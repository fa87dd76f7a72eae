-- Entries in lanes are changed one after another.
use Rattle.std.proofs.Common.{◌≢◌, ℕ, ◌+◌, ◌<◌, Option, inl, inr, refl, ap, ◌∙◌, arith}
use Rattle.std.proofs.lemmas.Bool.{cases_eq}
use Rattle.mbj_types.specs.declared.kind.TheConstants.{AES_LANES}
use Rattle.mbj_lane.specs.Slots.{IsWritten}
use Rattle.mbj_aes_lanes.specs.Inside.Busy.{AreGiven}

module _ {E : Type 0} (change : ℕ → Option E → Option E) where
  -- none of them
  pub given-none : (es : ℕ → Option E) → AreGiven change 0 es es
  given-none es = record { given = λ i h. absurd (omega arith); left = λ i h k. refl }

  -- one more
  pub given-more : (done : ℕ) (old now next : ℕ → Option E) → done < AES_LANES → IsWritten AES_LANES done (change done (now done)) now next
      → AreGiven change done old now → AreGiven change (done + 1) old next
  given-more done old now next h put before = record {
    given = λ i lt. elim (cases_eq i done) [
      | inl last ↦ rw last (put.here ∙ ap (change done) (before.left done (omega arith) h))
      | inr ne ↦ let earlier : i < done = omega arith in put.others i (omega arith) ne ∙ before.given i earlier
    ];
    left = λ i le lt. let ne : i ≢ done = λ e. absurd (omega (arith, e)) in put.others i lt ne ∙ before.left i (omega arith) lt;
  }
