use Rattle.std.proofs.Common.{◌≡◌, ℕ, List, take}
use Rattle.mbj_types.specs.Ghash.{ghash_from}
use Rattle.mbj_ghash.specs.Inside.{AreRowsOf}
use Rattle.mbj_ghash.proofs.horner.after_each.Given as goal

abbrev pub invariant-loop-block : goal.invariant-loop-block
invariant-loop-block l = (h : List ℕ) → AreRowsOf h l.rows → l.sum ≡ ghash_from h l.fn.value (take l.block-index l.fn.blocks)
