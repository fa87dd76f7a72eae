use Rattle.std.proofs.Common.{◌≡◌, ℕ, List, length, map, ap, subst, refl, arith}
use Rattle.std.proofs.lemmas.List.{length-map}
use Rattle.std.proofs.lemmas.Result.{err_from_is_err_and}
use Rattle.mbj_text.specs.Flow.{GainsPrefix, WritesAll}
use Rattle.mbj_text.specs.File.{Reads}
use Rattle.mbj_text.specs.Line.{text}
use Rattle.mbj_types.specs.declared.done.Done.{Done}
use Rattle.mbj_types.specs.declared.job.Job.{Job}
use Rattle.mbj_types.specs.Result.{result_of}
use Rattle.mbjobs.specs.Outcome.{Does}
use Rattle.mbj_io.specs.Streams.{Stream, stream}
use Rattle.mbjobs.specs.Reading.{ReadsBytes}
use Rattle.mbj_command.specs.declared.command.Command.TheVariants.{Run}
use Rattle.mbjobs.proofs.run.run.Goals as goal

-- the jobs of the input are answered by the text of their results
answered : (s w : ℕ) (input : Stream) (keys : List (List ℕ)) (jobs : List Job) (results : List Done) (IsWritten : List ℕ → Type 0)
    → ReadsBytes input (λ bytes. Reads bytes keys jobs) → results ≡ map result_of jobs → IsWritten (text results)
    → Does (Run s w) input IsWritten
answered s w input keys jobs results IsWritten reads are written =
    let is_written = subst IsWritten (ap (λ (ds : List Done). text ds) are) written in
    (reads.0, reads.1, (text (map result_of jobs), (keys, jobs, reads.2, refl), is_written))

pub write_results-requires : goal.write_results-requires
write_results-requires g c =
    omega (arith, ap length c.in_ok-results.ensures, length-map c.in_ok-keys.jobs.items result_of, c.in_ok-keys.ensures.count)

pub returns-clause-ok : goal.returns-clause-ok
returns-clause-ok g c =
    answered c.args.submitters c.args.workers
    (stream g.S.Source.rest g.S.Source.faults c.args.input.now c.read_job_file.new.input) _ c.in_ok-keys.jobs.items _
    (WritesAll (stream g.O.Sink.held g.O.Sink.faults c.args.out.now c.write_results.new.out)) c.in_ok-keys.ensures.read
    c.in_ok-results.ensures c.in_ok-write_results.ensures

pub returns-in_err-write_results-clause-err : goal.returns-in_err-write_results-clause-err
returns-in_err-write_results-clause-err g c =
    let left = c.from_residual-in_err-write_results in
    let exit = err_from_is_err_and left.result left.ensures.1 in
    rw (exit.1, exit.2) (
      c.in_err-write_results.ensures.failed,
      answered c.args.submitters c.args.workers
          (stream g.S.Source.rest g.S.Source.faults c.args.input.now c.read_job_file.new.input) _ c.in_ok-keys.jobs.items _
          (λ t. GainsPrefix (g.O.Sink.held c.args.out.now) (g.O.Sink.held c.write_results.new.out) t) c.in_ok-keys.ensures.read
          c.in_ok-results.ensures c.in_err-write_results.ensures.front,
    )
