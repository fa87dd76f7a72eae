-- What the fields of a burster stand for.
use Rattle.std.specs.Prelude.{◌≡◌, ℕ, ◌+◌, ◌≤◌, ◌++◌, List, map, length, vec_capacity}
use Rattle.mbj_types.specs.declared.job.Job.{Job}
use Rattle.mbj_types.specs.Result.{result_of}
use Rattle.mbj_burst.specs.Burst.{Bursting}
use Rattle.mbj_burst.specs.declared.burster.Burster.{Burster}

abbrev pub state_of : Burster → Bursting
state_of b = record { manager = b.manager; results = b.results.items }

-- what was given back, and what is still owed, are the results of these jobs
abbrev pub HasResults : List Job → Bursting → Type 0
HasResults js b = b.results ++ b.manager.owed ≡ map result_of js

-- there is room for what is owed, and for the results of this many jobs more
abbrev pub HasRoom : ℕ → Burster → Type 0
HasRoom more b = length b.results.items + length b.manager.owed + more ≤ vec_capacity b.results
