-- The code of a manager's state, by which proofs tell states apart: it is stored with its lanes in the order of their kinds.
use Rattle.std.specs.Prelude.{◌≡◌, ℕ, List, refl, map, slice_index_or}
use Rattle.std.specs.Coded.{Coded, code_by}
use mathlib.Core.Path.{fun_ext, ap}
use Rattle.mbj_types.specs.declared.job.Job.{Job}
use Rattle.mbj_types.specs.declared.done.Done.{Done}
use Rattle.mbj_types.specs.declared.kind.Kind.{Kind}
use Rattle.mbj_types.specs.declared.kind.Kind.TheVariants as kind
use Rattle.mbj_types.specs.Kinds.{all_kinds, index_of}
use Rattle.mbj_manager.specs.Machine.Stages.{Pending}
use Rattle.mbj_manager.specs.Machine.Queues.{Queue, idle_queue}
use Rattle.mbj_manager.specs.State.{ManagerState}

-- what a kind has of a list in the order of the kinds
abbrev pub told : {A : Type 0} → A → List A → Kind → A
told none xs k = slice_index_or xs (index_of k) none

pub told-kinds : {A : Type 0} (none : A) (f : Kind → A) (k : Kind) → told none (map f all_kinds) k ≡ f k
told-kinds none f kind.Cbc128 = refl
told-kinds none f _ = refl

-- the lanes of each kind, if they are listed in the order of the kinds
abbrev pub listed : List Queue → Kind → Queue
listed lanes = told idle_queue lanes

-- a state with its lanes as a list, field by field
abbrev pub Stored : Type 0
Stored = List Done × (List Job × (List Job × (List (List Pending) × (List Queue × (List ℕ × (ℕ × ℕ))))))

abbrev stored : ManagerState → Stored
stored h = (h.owed, (h.jobs, (h.opened, (h.machine.left, (map h.machine.lanes all_kinds, (h.machine.agenda, (h.machine.flush_runs, h.expansions)))))))

abbrev state : Stored → ManagerState
state s = record {
  owed = s.0;
  jobs = s.1.0;
  opened = s.1.1.0;
  machine = record { left = s.1.1.1.0; lanes = listed s.1.1.1.1.0; agenda = s.1.1.1.1.1.0; flush_runs = s.1.1.1.1.1.1.0 };
  expansions = s.1.1.1.1.1.1.1;
}

-- a state is what it is stored as
pub state-stored : (h : ManagerState) → state (stored h) ≡ h
state-stored h = ap (λ (lanes : Kind → Queue). record h { machine = record h.machine { lanes = lanes } }) (fun_ext (told-kinds idle_queue h.machine.lanes))

-- the code of a state, from that of what it is stored as
abbrev pub state_code : Coded Stored → Coded ManagerState
state_code code = code_by Stored code stored state state-stored
