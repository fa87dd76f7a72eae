-- One counter block more is made in each turn.
use Rattle.std.proofs.Common.{◌≢◌, ◌<◌, length, arith, get_or-set_other, get_or-set_same, below_more}
use Rattle.mbj_gcm.proofs.counter.put_counters_after.Goals as goal

pub each-preserved : goal.each-preserved
each-preserved c =
    let inside : c.each.j < length c.each.blocks = omega arith in
    below_more _ c.each.j (λ k h. let ne : k ≢ c.each.j = omega arith in rw get_or-set_other (c.each.invariant k h))
    (rw get_or-set_same c.incremented.ensures)
