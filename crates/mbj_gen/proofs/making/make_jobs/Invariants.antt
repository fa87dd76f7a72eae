use Rattle.std.proofs.Common.{◌≡◌, ◌≤◌, ◌-◌, ◌++◌, vec_len, vec_capacity}
use Rattle.mbj_gen.specs.Generator.{draws, job}
use Rattle.mbj_gen.proofs.making.make_jobs.Given as goal

abbrev pub invariant-loop : goal.invariant-loop
invariant-loop l = record {
  made : l.jobs.items ++ (draws job (l.count - l.counter) l.generator).0 ≡ (draws job l.count l.seed).0;
  len : vec_len l.jobs ≡ l.counter;
  room : l.count ≤ vec_capacity l.jobs;
}
