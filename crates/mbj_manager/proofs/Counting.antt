-- Each run of a course goes into the count of the call that it is within.
use Rattle.std.proofs.Common.{◌≡◌, ℕ, List, inl, inr, refl, ap, sym, ◌∙◌}
use Rattle.mbj_types.specs.declared.kind.Kind.{Kind}
use Rattle.mbj_manager.specs.Machine.Queues.{Queue, Machine, WaitingJob, queue_for, with_queue}
use Rattle.mbj_manager.specs.declared.lane.Cause.TheVariants as cause
use Rattle.mbj_manager.specs.Machine.Counts.{CountsApart, full_runs}
use Rattle.mbj_manager.proofs.Unchanged.{IsUnchanged, unchanged-course, unchanged-flush}
use Rattle.mbj_manager.proofs.KindLines.{put-case}
use Rattle.mbj_manager.proofs.Lanes.{with_waiting}

-- ---- within a submit

flush-runs-left : IsUnchanged (λ m. m.flush_runs) cause.Submit
flush-runs-left = record {
  runs = λ k m. refl;
  joins = λ k ws m. refl;
  takes = λ n agenda m. refl;
}

-- ---- within a flush

-- a lane queue that changes keeps its kind's counts, and those of the other kinds
same-counts : (k j : Kind) (ws : List WaitingJob) (m : Machine)
    → full_runs k (record m { lanes = with_queue j (with_waiting (queue_for j m) ws) m.lanes }) ≡ full_runs k m
same-counts k j ws m =
    let counts : Queue → ℕ × ℕ = λ l. (l.rounds, l.blocks) in
    elim (put-case j k (with_waiting (queue_for j m) ws) m.lanes) [
      | inl e ↦ ap counts e.1 ∙ ap (λ i. counts (m.lanes i)) (sym e.0)
      | inr e ↦ ap counts e.1
    ]

full-runs-left : (k : Kind) → IsUnchanged (full_runs k) cause.Flush
full-runs-left k = record {
  runs = λ j m. same-counts k j _ m;
  joins = λ j ws m. same-counts k j ws m;
  takes = λ n agenda m. refl;
}

pub counts-apart : (m : Machine) → CountsApart m
counts-apart m = record {
  submitting = unchanged-course (λ m. m.flush_runs) cause.Submit flush-runs-left m;
  flushing = λ k. unchanged-flush (full_runs k) (full-runs-left k) m;
}
