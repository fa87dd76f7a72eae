-- What the fields of a cell's contents keep.
use Rattle.std.specs.Prelude.{◌≡◌, Bool, false}
use Rattle.mbj_stage.specs.CourseState.{CourseState, IsIdle}

-- the course of a job that is being filled is idle
abbrev pub IsIdleWhileOpen : Bool → CourseState → Type 0
IsIdleWhileOpen is_going c = is_going ≡ false → IsIdle c
