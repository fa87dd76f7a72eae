use Rattle.std.proofs.Common.{◌≡◌, ℕ, inl, inr, refl, ◌∙◌, arith}
use Rattle.std.proofs.lemmas.Bool.{cases_eq, ne_eqb}
use Rattle.mbj_types.specs.Lanes.{lane_at}
use Rattle.mbj_hmac.proofs.Vectors.{splat_is}
use Rattle.mbj_hmac.proofs.rests.has_other.Goals as goal

pub returns : goal.returns
returns c none i h busy =
    let number : ℕ = c.args.number in
    let count : ℕ = lane_at 32 c.args.counts i in
    elim (cases_eq count number) [
      | inl same ↦ same
      | inr apart ↦
          let splat = splat_is 16 i number h c.ranges.number.fits in
          let rest : lane_at 32 c.where_equal.result i ≡ lane_at 32 c.args.rests i =
          c.where_equal.ensures i h ∙ rw (splat, ne_eqb count number apart) refl in
          absurd (c.has_busy_lane.ensures none i h (omega (arith, rest, busy)))
    ]
