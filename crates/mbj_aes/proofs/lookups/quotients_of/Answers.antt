-- Step by step as in the definitions.
use Rattle.std.proofs.Common.{refl, sym, subst}
use Rattle.mbj_types.specs.Lanes.{IsTableIndex}
use Rattle.mbj_aes.specs.Tower.{high_denominator, sum_denominator, first_quotient, second_quotient}
use Rattle.mbj_aes.proofs.TowerCases.{half_sum-index, high_denominator-index, sum_denominator-index, first_quotient-index, second_quotient-index}
use Rattle.mbj_aes.proofs.lookups.quotients_of.Goals as goal

pub looked_up-requires-2 : goal.looked_up-requires-2
looked_up-requires-2 g c i h =
    rw (c.xored-sum.ensures i h, c.low_half-low.ensures i h, c.high_half-high.ensures i h)
    (half_sum-index (g.V.Lane8.lane c.args.x i) (g.met.V.Lane8.fits c.args.x i))

pub looked_up-requires-3 : goal.looked_up-requires-3
unfolding high_denominator
looked_up-requires-3 g c i h =
    rw (
      c.xored-high_denominator.ensures i h,
      c.looked_up.ensures i h,
      c.looked_up-scaled.ensures i h,
      c.low_half-low.ensures i h,
      c.high_half-high.ensures i h,
    )
    (high_denominator-index (g.V.Lane8.lane c.args.x i) (g.met.V.Lane8.fits c.args.x i))

pub looked_up-requires-4 : goal.looked_up-requires-4
unfolding sum_denominator
looked_up-requires-4 g c i h =
    rw (
      c.xored-sum_denominator.ensures i h,
      c.looked_up-2.ensures i h,
      c.looked_up-scaled.ensures i h,
      c.xored-sum.ensures i h,
      c.low_half-low.ensures i h,
      c.high_half-high.ensures i h,
    )
    (sum_denominator-index (g.V.Lane8.lane c.args.x i) (g.met.V.Lane8.fits c.args.x i))

pub returns-clause-first : goal.returns-clause-first
unfolding first_quotient high_denominator
returns-clause-first g c i h =
    rw (
      c.xored.ensures i h,
      c.looked_up-3.ensures i h,
      c.xored-high_denominator.ensures i h,
      c.looked_up.ensures i h,
      c.looked_up-scaled.ensures i h,
      c.xored-sum.ensures i h,
      c.low_half-low.ensures i h,
      c.high_half-high.ensures i h,
    ) refl

pub returns-clause-second : goal.returns-clause-second
unfolding second_quotient sum_denominator
returns-clause-second g c i h =
    rw (
      c.xored-2.ensures i h,
      c.looked_up-4.ensures i h,
      c.xored-sum_denominator.ensures i h,
      c.looked_up-2.ensures i h,
      c.looked_up-scaled.ensures i h,
      c.xored-sum.ensures i h,
      c.low_half-low.ensures i h,
      c.high_half-high.ensures i h,
    ) refl

pub returns-clause-first_index : goal.returns-clause-first_index
returns-clause-first_index g c i h =
    subst IsTableIndex (sym (returns-clause-first g c i h)) (first_quotient-index (g.V.Lane8.lane c.args.x i) (g.met.V.Lane8.fits c.args.x i))

pub returns-clause-second_index : goal.returns-clause-second_index
returns-clause-second_index g c i h =
    subst IsTableIndex (sym (returns-clause-second g c i h)) (second_quotient-index (g.V.Lane8.lane c.args.x i) (g.met.V.Lane8.fits c.args.x i))
