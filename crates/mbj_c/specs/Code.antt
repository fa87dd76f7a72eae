-- The code of a state, by which proofs tell states apart.
use Rattle.std.specs.Prelude.{List, Option, refl}
use Rattle.std.specs.Coded.{Coded, code_by, coded×}
use Rattle.mbj_keys.specs.Sessions.{Known}
use Rattle.mbj_manager.specs.State.{ManagerState}
use Rattle.mbj_c.specs.declared.range.CipherRange.{CipherRange}
use Rattle.mbj_c.specs.State.{RangedState}

abbrev pub Stored : Type 0
Stored = List CipherRange × (List CipherRange × Option (List Known))

-- a state is stored as its manager and the rest
abbrev pub ranged_code : Coded ManagerState → Coded Stored → Coded RangedState
ranged_code manager rest =
    code_by (ManagerState × Stored) (coded× manager rest) (λ k. (k.manager, (k.ranges, (k.filled, k.notes))))
    (λ s. record { manager = s.0; ranges = s.1.0; filled = s.1.1.0; notes = s.1.1.1 }) (λ k. refl)
