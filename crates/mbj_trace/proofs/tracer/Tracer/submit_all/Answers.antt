-- A job was submitted, and the others are left.
use Rattle.std.proofs.Common.{◌≡◌, ◌∙◌, ◌+◌, ◌∷◌, ◌++◌, List, length, ap, sym, append_assoc, arith}
use Rattle.std.specs.Vec.Iter.{into_iter_items}
use Rattle.mbj_types.specs.declared.job.Job.{Job}
use Rattle.mbj_trace.specs.Trace.{Tracing, job_told, jobs_told}
use Rattle.mbj_trace.specs.Inside.State.{state_of}
use Rattle.mbj_trace.specs.declared.line.TraceLine.{TraceLine}
use Rattle.mbj_trace.proofs.tracer.Tracer.submit_all.Goals as goal

pub loop-job-preserved : goal.loop-job-preserved
loop-job-preserved c =
    let was = c.loop-job.invariant in let told = c.in_ok-submit.ensures in
    let n = c.loop-job.number in let job = c.in-Some.job in let old : Tracing = state_of c.loop-job.self in
    let left = into_iter_items c.next.new.self in let step : into_iter_items c.loop-job.job-iterator ≡ job ∷ left = c.in-Some.ensures.steps.0 in
    let lines = c.loop-job.self.lines.items in let new : Tracing = (job_told n job old).1 in
    record {
      next = tt;
      finite = tt;
      lines = ap (λ (t : Tracing). c.submit.new.self.lines.items ++ (jobs_told (n + 1) left t).0) told.state
          ∙ ap (λ (ls : List TraceLine). ls ++ (jobs_told (n + 1) left new).0) told.lines
          ∙ append_assoc lines (job_told n job old).0 (jobs_told (n + 1) left new).0
          ∙ ap (λ (js : List Job). lines ++ (jobs_told n js old).0) (sym step) ∙ was.lines;
      state = ap (λ (t : Tracing). (jobs_told (n + 1) left t).1) told.state ∙ ap (λ (js : List Job). (jobs_told n js old).1) (sym step) ∙ was.state;
      number = told.count ∙ ap (λ k. k + 1) was.number;
      room = omega (arith, was.room, ap length step);
    }
