use Rattle.std.proofs.Common.{◌≡◌, take}
use Rattle.std.specs.List.{flat_map}
use Rattle.mbj_types.specs.Ghash.{ghash_from}
use Rattle.mbj_ghash.specs.Inside.{AreRowsOf}
use Rattle.mbj_ghash.proofs.horner.after_fours.Given as goal

abbrev pub invariant-loop-four : goal.invariant-loop-four
invariant-loop-four l =
    AreRowsOf l.fn.subkey l.rows
    → l.sum ≡ ghash_from l.fn.subkey l.fn.value (flat_map (λ four. four) (take l.four-index l.fn.fours))
