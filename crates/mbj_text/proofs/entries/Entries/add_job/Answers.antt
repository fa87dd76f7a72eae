-- A job line is read if one more fits.
use Rattle.std.proofs.Common.{◌≡◌, ◌≢◌, ◌∙◌, ◌++◌, ap, sym, ℕ, List, [], ◌∷◌, length, map, Ok, arith, rules, vec_len}
use Rattle.std.specs.declared.vec.Vec.{Vec}
use Rattle.std.specs.declared.alloc.Global.{Global}
use Rattle.std.proofs.lemmas.Result.{err_from_is_err_and}
use Rattle.mbj_types.specs.declared.job.Job.{Job}
use Rattle.mbj_text.specs.declared.limits.TheConstants.{JOB_LIMIT}
use Rattle.mbj_text.specs.Entries.{JobEntry}
use Rattle.mbj_text.specs.Inside.Reading.{◌>>=◌, KeysAndJobs, Read, job_of, with_entry}
use Rattle.mbj_text.proofs.EntryLaws.{fails_on, job_fits, no_job_fits}
use Rattle.mbj_text.proofs.entries.Entries.add_job.Goals as goal

-- the keys and the jobs as lists
abbrev lists : Vec (Vec ℕ Global) Global → List Job → KeysAndJobs
lists keys jobs = (map (λ k. k.items) keys.items, jobs)

-- there are as many jobs in the list as in the vector
count : (keys : Vec (Vec ℕ Global) Global) (jobs : Vec Job Global) (now : KeysAndJobs) → lists keys jobs.items ≡ now → vec_len jobs ≡ length now.1
count keys jobs now view =
    let size : vec_len jobs ≡ length jobs.items = search rules in
    omega (arith, size, ap (λ (l : KeysAndJobs). length l.1) view)

-- the keys that the line is read behind
keys_are : (keys : List (Vec ℕ Global)) (vector : Vec (Vec ℕ Global) Global) (jobs : List Job) (now : KeysAndJobs) → keys ≡ vector.items → lists vector jobs ≡ now
    → map (λ k. k.items) keys ≡ now.0
keys_are keys vector jobs now is view = ap (map (λ (k : Vec ℕ Global). k.items)) is ∙ ap (λ (l : KeysAndJobs). l.0) view

-- one job more
pushed : (keys : Vec (Vec ℕ Global) Global) (old new : List Job) (job : Job) (now : KeysAndJobs)
    → new ≡ old ++ job ∷ [] → lists keys old ≡ now → lists keys new ≡ with_entry now (JobEntry job)
pushed keys old new job now is view = ap (lists keys) is ∙ ap (λ (l : KeysAndJobs). with_entry l (JobEntry job)) view

pub returns-then-len-eq-JOB_LIMIT : goal.returns-then-len-eq-JOB_LIMIT
returns-then-len-eq-JOB_LIMIT c =
    let size = count c.self.inside.keys c.self.inside.jobs c.args.self.now c.self.view_is in
    no_job_fits c.args.self.now.0 (length c.args.self.now.1) c.args.line.now c.requires (omega (arith, size))

pub returns-in_err-job : goal.returns-in_err-job
returns-in_err-job c =
    let size = count c.self.inside.keys c.self.inside.jobs c.args.self.now c.self.view_is in
    let keys = keys_are c.deref.result.now c.self.inside.keys c.self.inside.jobs.items c.args.self.now c.deref.ensures.value c.self.view_is in
    let room : length c.args.self.now.1 ≢ JOB_LIMIT = omega (arith, size) in
    let read = job_fits c.args.self.now.0 (length c.args.self.now.1) c.args.line.now c.requires room in
    let exit = err_from_is_err_and c.from_residual.result c.from_residual.ensures.1 in
    rw (exit.1, exit.2, read, ← keys) (fails_on c.in_err-job.field-0.0 _ (λ job. Ok (JobEntry job)) c.in_err-job.ensures)

pub returns : goal.returns
returns c =
    let size = count c.self.inside.keys c.self.inside.jobs c.args.self.now c.self.view_is in
    let keys = keys_are c.deref.result.now c.self.inside.keys c.self.inside.jobs.items c.args.self.now c.deref.ensures.value c.self.view_is in
    let read = job_fits c.args.self.now.0 (length c.args.self.now.1) c.args.line.now c.requires (λ full. c.if-len-eq-JOB_LIMIT.false (omega (arith, size, full))) in (
      JobEntry c.in_ok-job.job,
      read
          ∙ ap (λ (keys : List (List ℕ)). job_of keys c.args.line.now >>= λ job. Ok (JobEntry job)) (sym keys)
          ∙ ap (λ (r : Read Job). r >>= λ job. Ok (JobEntry job)) c.in_ok-job.ensures,
      pushed c.self.inside.keys c.self.inside.jobs.items _ c.in_ok-job.job c.args.self.now c.in_ok-push.ensures.items c.self.view_is,
    )
