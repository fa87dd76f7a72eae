-- What a call needs before it is made, and before its result is written.
use Rattle.std.specs.Prelude.{◌+◌, ◌<◌, ◌≤◌, [], ◌∷◌, length}
use Rattle.mbj_manager.specs.State.{ManagerState}
use Rattle.mbj_c.specs.declared.giving.Call.{Call}
use Rattle.mbj_c.specs.declared.giving.Call.TheVariants as call

-- a job is open if the call submits it
abbrev pub HasJob : Call → ManagerState → Type 0
HasJob call.Submit m = 0 < length m.opened
HasJob call.Completed m = Unit {0}
HasJob call.Flush m = Unit {0}
