-- What a contract sees of the manager behind a handle.
use Rattle.std.specs.Prelude.{List, [], map, Option, None}
use Rattle.mbj_keys.specs.Sessions.{Known}
use Rattle.mbj_manager.specs.State.{ManagerState, new_manager}
use Rattle.mbj_c.specs.declared.range.CipherRange.{CipherRange}
use Rattle.mbj_c.specs.Ranges.{given_range, ranges_owed}

pub record RangedState : Type 0 where
  pub manager : ManagerState
  -- the ranges that the jobs give back whose results are owed, in their order
  pub ranges : List CipherRange
  -- the ranges that the open jobs give back, the first opened first
  pub filled : List CipherRange
  -- what is known of the key sessions that the manager uses, if it uses a set
  pub notes : Option (List Known)

-- a manager's state with its ranges, and with what is known of the key sessions
abbrev pub ranged : ManagerState → Option (List Known) → RangedState
ranged m notes = record { manager = m; ranges = ranges_owed m.owed m.jobs; filled = map given_range m.opened; notes = notes }

abbrev pub new_ranged : RangedState
new_ranged = record { manager = new_manager; ranges = []; filled = []; notes = None }
