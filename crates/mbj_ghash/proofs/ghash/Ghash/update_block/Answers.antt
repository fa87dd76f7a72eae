-- The next value is that of the blocks so far and this one.
use Rattle.std.proofs.Common.{List, ℕ, ap}
use Rattle.mbj_ghash.specs.State.{HashState}
use Rattle.mbj_ghash.proofs.States.{state_after-last}
use Rattle.mbj_ghash.proofs.ghash.Ghash.update_block.Goals as goal

pub returns-clause-so_far : goal.returns-clause-so_far
returns-clause-so_far c h xs e =
    let with_value : List ℕ → HashState = λ y. record { subkey = c.self.inside.subkey; value = y } in
    state_after-last c.args.self.now _ h xs c.args.block.now e
    (rw (← c.self.view_is) (ap with_value (c.after_block-self-inside.ensures c.self.inside.subkey c.self.invariant)))
