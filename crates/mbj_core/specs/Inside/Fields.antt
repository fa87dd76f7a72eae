-- What a contract sees of the core's fields, and what holds of them.
use Rattle.std.specs.Prelude.{◌≡◌, ◌+◌, ◌*◌, ◌<◌, ◌≤◌, map, vec_len, All}
use Rattle.mbj_types.specs.Result.{result_of}
use Rattle.mbj_types.specs.declared.job.Job.{Job}
use Rattle.mbj_types.specs.declared.done.Done.{Done}
use Rattle.mbj_core.specs.Cells.{Cell, free, ready, done, hand_of}
use Rattle.mbj_core.specs.CoreStates.{CoreState}
use Rattle.mbj_core.specs.Stands.{IsBacked}
use Rattle.mbj_core.specs.declared.cells.Slot.{Slot}
use Rattle.mbj_core.specs.declared.cells.Slot.TheVariants as slot
use Rattle.mbj_core.specs.declared.cells.TheConstants.{MAX_SUBMITTERS, MAX_WORKERS, SUBMITTER_CELLS}
use Rattle.mbj_core.specs.declared.machine.Core.TheInside.{Inside}

-- what the cell holds; the job of a claimed cell has a result, whether it is computed or not
abbrev pub cell_shown : Slot → Cell Job Done
cell_shown slot.Free = free
cell_shown (slot.Ready job) = ready job
cell_shown (slot.Held p job) = hand_of p (result_of job)
cell_shown (slot.Done d) = done d

abbrev pub state_of : Inside → CoreState
state_of a = record {
  submitters = a.submitters;
  workers = a.workers;
  cells = map cell_shown a.cells.items;
  hands = a.hands.items;
  outs = a.outs.items;
}

pub record IsCore (a : Inside) : Type 0 where
  pub some_submitter : 1 ≤ a.submitters
  pub submitters : a.submitters ≤ MAX_SUBMITTERS
  pub workers : a.workers ≤ MAX_WORKERS
  pub cells : vec_len a.cells ≡ SUBMITTER_CELLS * a.submitters
  pub hands : vec_len a.hands ≡ a.submitters + a.workers
  pub outs : vec_len a.outs ≡ a.submitters
  pub each_first : All (λ o. o.first < SUBMITTER_CELLS) a.outs.items
  pub each_out : All (λ o. o.count ≤ SUBMITTER_CELLS) a.outs.items
  pub backed : IsBacked (state_of a)
