-- What the fields of a trace stand for.
use Rattle.std.specs.Prelude.{ℕ, ◌+◌, ◌-◌, ◌^◌, length}
use Rattle.mbj_trace.specs.Trace.{Tracing}
use Rattle.mbj_trace.specs.declared.tracer.Tracer.{Tracer}

abbrev pub state_of : Tracer → Tracing
state_of t = record { manager = t.manager; given = t.given }

-- the number of jobs is kept in 32 bits
abbrev pub MAX_GIVEN : ℕ
MAX_GIVEN = 2 ^ 32 - 1

-- how many jobs were given to the manager
abbrev pub jobs_in : Tracing → ℕ
jobs_in t = t.given + length t.manager.owed
