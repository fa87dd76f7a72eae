-- What is counted of the lanes.
use Rattle.std.specs.Prelude.{◌≡◌, ℕ, Bool, true, false, length, Option, Some, None, slice_get}
use Rattle.mbj_types.specs.declared.kind.Kind.{Kind}
use Rattle.mbj_types.specs.Kinds.{all_kinds}
use Rattle.mbj_manager.specs.Machine.Queues.{queue_for}
use Rattle.mbj_manager.specs.State.{ManagerState}
use Rattle.mbj_c.specs.declared.counts.Counts.{Counts}
use Rattle.mbj_c.specs.State.{RangedState}

abbrev pub counts_of : Kind → ManagerState → Counts
counts_of k m = record {
  rounds = (queue_for k m.machine).rounds;
  blocks = (queue_for k m.machine).blocks;
  flush_runs = m.machine.flush_runs;
  waiting = length (queue_for k m.machine).waiting;
}

-- how many jobs are submitted and not given back
abbrev pub queue_size : Option RangedState → ℕ
queue_size None = 0
queue_size (Some k) = length k.manager.owed

-- what is counted, if there is a manager and a kind
abbrev pub counted : Option RangedState → Option Kind → Option Counts
counted (Some m) (Some k) = Some (counts_of k m.manager)
counted m k = None

abbrev pub IsCountedAs : Option Counts → Bool → Counts → Counts → Type 0
IsCountedAs None flag before after = (flag ≡ false) × (after ≡ before)
IsCountedAs (Some c) flag before after = (flag ≡ true) × (after ≡ c)

-- the flag is true exactly where there is a manager, and the code is that of a kind; else nothing is written
abbrev pub IsCounted : Option RangedState → ℕ → Bool → Counts → Counts → Type 0
IsCounted m code flag before after = IsCountedAs (counted m (slice_get all_kinds code)) flag before after
