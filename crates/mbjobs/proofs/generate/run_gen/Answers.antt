-- The results are those of the jobs that were made.
use Rattle.std.proofs.Common.{◌≡◌, ◌∙◌, ℕ, List, ap, length, map, arith}
use Rattle.mbj_types.specs.declared.done.Done.{Done}
use Rattle.mbj_types.specs.declared.job.Job.{Job}
use Rattle.mbj_types.specs.Result.{result_of}
use Rattle.mbj_gen.specs.Generator.{draws, job}
use Rattle.mbj_gen.proofs.GeneratedJobs.{length-results, lines-fit}
use Rattle.mbjobs.proofs.generate.run_gen.Goals as goal

results_are : (jobs seed : ℕ) (made : List Job) (results : List Done) → results ≡ map result_of made → made ≡ (draws job jobs seed).0
    → results ≡ map result_of (draws job jobs seed).0
results_are jobs seed made results of_made made_is = of_made ∙ ap (λ (js : List Job). map result_of js) made_is

pub summarize-lines-requires-clause-limit : goal.summarize-lines-requires-clause-limit
summarize-lines-requires-clause-limit g c =
    let are = results_are c.args.jobs c.args.seed c.in_ok-made.made.items c.in_ok-results.results c.in_ok-results.ensures c.in_ok-made.ensures in
    omega (arith, ap length are, length-results c.args.jobs c.args.seed, c.requires.jobs)

pub summarize-lines-requires-clause-lines : goal.summarize-lines-requires-clause-lines
summarize-lines-requires-clause-lines g c =
    let are = results_are c.args.jobs c.args.seed c.in_ok-made.made.items c.in_ok-results.results c.in_ok-results.ensures c.in_ok-made.ensures in
    rw are (lines-fit c.args.jobs c.args.seed c.requires.jobs)
