-- A new ring's cells are all empty.
use Rattle.std.proofs.Common.{refl}
use Rattle.mbj_ring.proofs.Rings.{fresh}
use Rattle.mbj_ring.proofs.ring.Ring.new.Goals as goal

pub invariant_of-result : goal.invariant_of-result
invariant_of-result g c =
    (fresh (record { cells = c.in_ok-cells.cells; first = 0; len = 0; open_len = 0; alloc = c.args.alloc }) refl refl refl c.in_ok-cells.ensures).0

pub returns : goal.returns
returns g c =
    (fresh (record { cells = c.in_ok-cells.cells; first = 0; len = 0; open_len = 0; alloc = c.args.alloc }) refl refl refl c.in_ok-cells.ensures).1
