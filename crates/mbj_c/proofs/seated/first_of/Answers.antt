-- The first range is written back as it was read.
use Rattle.std.proofs.Common.{List, ap, sym}
use Rattle.mbj_ring.specs.Ring.{ring}
use Rattle.mbj_c.specs.declared.range.CipherRange.{CipherRange}
use Rattle.mbj_c.proofs.SeatRanges.{first-set}
use Rattle.mbj_c.proofs.seated.first_of.Goals as goal

pub returns-in-Some-clause-same : goal.returns-in-Some-clause-same
returns-in-Some-clause-same c =
    let ranges = c.args.ranges.now in
    ap (λ (rs : List CipherRange). ring rs ranges.opened ranges.first)
    (first-set ranges.values c.in-Some.range.now (sym c.in-Some.ensures.value))
