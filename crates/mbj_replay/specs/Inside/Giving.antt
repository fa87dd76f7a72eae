-- What a worker's manager gave back, with the cell that it goes into, and what that leaves of the core.
use Rattle.std.specs.Prelude.{ℕ, List, ◌∷◌, Option, None, Some}
use Rattle.mbj_types.specs.declared.done.Done.{Done}
use Rattle.mbj_core.specs.CoreStates.{CoreState, finished}

-- the cell is the first of the worker's hand
abbrev pub first_with : List ℕ → Option Done → Option (ℕ × Done)
first_with (cell ∷ cells) (Some d) = Some (cell, d)
first_with _ _ = None

-- the party finished the cell's job, if there is one
abbrev pub core_after : ℕ → Option (ℕ × Done) → CoreState → CoreState
core_after p None c = c
core_after p (Some given) c = finished c p given.0 given.1
