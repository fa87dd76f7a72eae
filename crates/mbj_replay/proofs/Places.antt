-- What stands at the places of a replay's lists.
use Rattle.std.proofs.Common.{◌≡◌, ◌*◌, ◌<◌, refl, ℕ, List, Some, get_or, length, arith}
use Rattle.std.specs.Prelude.{slice_get}
use Rattle.std.proofs.lemmas.Option.{slice_get_read}
use Rattle.mbj_types.specs.declared.job.Job.{Job}
use Rattle.mbj_core.specs.declared.cells.TheConstants.{SUBMITTER_CELLS}
use Rattle.mbj_replay.specs.Inside.State.{IsPlaying}
use Rattle.mbj_replay.specs.declared.replayer.Posted.{Posted}
use Rattle.mbj_replay.specs.declared.replayer.Replayer.{Replayer}
use Rattle.mbj_replay.specs.declared.worker.Worker.{Worker}

pub worker-at : (jobs : List Job) (r : Replayer) (w : ℕ) (x : Worker) → IsPlaying jobs r → w < r.core.workers
    → x ≡ get_or r.workers.items w x → slice_get r.workers.items w ≡ Some x
worker-at jobs r w x plays within is =
    let workers = plays.1.worker_count in
    slice_get_read r.workers.items (length r.workers.items) w x refl (omega (arith, workers, within)) is

pub posted-at : (jobs : List Job) (r : Replayer) (cell : ℕ) (x : Posted) → IsPlaying jobs r → cell < SUBMITTER_CELLS * r.core.submitters
    → x ≡ get_or r.posted.items cell x → slice_get r.posted.items cell ≡ Some x
posted-at jobs r cell x plays within is =
    let cells = plays.1.stock.cell_count in
    slice_get_read r.posted.items (length r.posted.items) cell x refl (omega (arith, cells, within)) is

pub next-at : (jobs : List Job) (r : Replayer) (s n : ℕ) → IsPlaying jobs r → s < r.core.submitters
    → n ≡ get_or r.nexts.items s n → slice_get r.nexts.items s ≡ Some n
next-at jobs r s n plays within is =
    let nexts = plays.1.stock.next_count in
    slice_get_read r.nexts.items (length r.nexts.items) s n refl (omega (arith, nexts, within)) is
