use Rattle.std.proofs.Common.{◌≡◌, ◌++◌, ℕ, List, flat_map, length, map, ap, ap₂, subst, refl, arith}
use Rattle.std.proofs.lemmas.List.{length-map}
use Rattle.std.proofs.lemmas.Result.{err_from_is_err_and}
use Rattle.mbj_text.specs.Flow.{GainsPrefix, WritesAll}
use Rattle.mbj_text.specs.File.{Reads}
use Rattle.mbj_text.specs.Line.{text}
use Rattle.mbj_types.specs.declared.done.Done.{Done}
use Rattle.mbj_types.specs.declared.job.Job.{Job}
use Rattle.mbj_types.specs.Result.{result_of}
use Rattle.mbj_burst.specs.Burst.{burst_text, burst_told}
use Rattle.mbj_burst.specs.Lines.{line_text}
use Rattle.mbj_burst.specs.declared.line.BurstLine.{BurstLine}
use Rattle.mbjobs.specs.Outcome.{Does}
use Rattle.mbj_io.specs.Streams.{Stream, stream}
use Rattle.mbjobs.specs.Reading.{ReadsBytes}
use Rattle.mbj_command.specs.declared.command.Command.TheVariants.{Burst}
use Rattle.mbjobs.proofs.burst.run_burst.Goals as goal

-- the jobs of the input are answered by the lines of their bursts and the text of their results
answered : (n : ℕ) (input : Stream) (keys : List (List ℕ)) (jobs : List Job) (lines : List BurstLine) (results : List Done) (IsWritten : List ℕ → Type 0)
    → ReadsBytes input (λ bytes. Reads bytes keys jobs) → lines ≡ (burst_told n jobs).0 → results ≡ map result_of jobs
    → IsWritten (flat_map line_text lines ++ text results) → Does (Burst n) input IsWritten
answered n input keys jobs lines results IsWritten reads told are written =
    let is_written = subst IsWritten (ap₂ (λ (ls : List BurstLine) (ds : List Done). flat_map line_text ls ++ text ds) told are) written in
    (reads.0, reads.1, (burst_text n jobs, (keys, jobs, reads.2, refl), is_written))

pub write_told-requires : goal.write_told-requires
write_told-requires g c =
    omega (arith, ap length c.in_ok-told.ensures.results, length-map c.in_ok-_keys.jobs.items result_of, c.in_ok-_keys.ensures.count)

pub returns-clause-ok : goal.returns-clause-ok
returns-clause-ok g c =
    answered c.args.size (stream g.S.Source.rest g.S.Source.faults c.args.input.now c.read_job_file.new.input) _ c.in_ok-_keys.jobs.items _ _
    (WritesAll (stream g.O.Sink.held g.O.Sink.faults c.args.out.now c.write_told.new.out)) c.in_ok-_keys.ensures.read
    c.in_ok-told.ensures.lines c.in_ok-told.ensures.results c.in_ok-write_told.ensures

pub returns-in_err-write_told-clause-err : goal.returns-in_err-write_told-clause-err
returns-in_err-write_told-clause-err g c =
    let left = c.from_residual-in_err-write_told in
    let exit = err_from_is_err_and left.result left.ensures.1 in
    rw (exit.1, exit.2) (
      c.in_err-write_told.ensures.failed,
      answered c.args.size (stream g.S.Source.rest g.S.Source.faults c.args.input.now c.read_job_file.new.input) _ c.in_ok-_keys.jobs.items _ _
          (λ t. GainsPrefix (g.O.Sink.held c.args.out.now) (g.O.Sink.held c.write_told.new.out) t) c.in_ok-_keys.ensures.read
          c.in_ok-told.ensures.lines c.in_ok-told.ensures.results c.in_err-write_told.ensures.front,
    )
