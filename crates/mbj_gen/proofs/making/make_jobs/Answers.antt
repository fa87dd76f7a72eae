-- The job that is pushed is the first of those that are left.
use Rattle.std.proofs.Common.{◌∙◌, ◌++◌, ◌∷◌, [], ap, arith}
use Rattle.mbj_types.specs.declared.job.Job.{Job}
use Rattle.mbj_gen.proofs.GeneratedJobs.{made-next}
use Rattle.mbj_gen.proofs.making.make_jobs.Goals as goal

pub loop-preserved : goal.loop-preserved
loop-preserved c =
    let pushed = c.push_reserved.ensures.items ∙ ap (λ (j : Job). c.loop.jobs.items ++ j ∷ []) c.in_ok-job.ensures.made in
    let count = c.loop.invariant.len in
    let room = c.loop.invariant.room in
    record {
      made = made-next c.loop.jobs.items c.push_reserved.new.self.items c.args.count c.loop.counter c.loop.generator
          c.job.new.self _ c.loop-test.true c.loop.invariant.made pushed c.in_ok-job.ensures.state;
      len = omega (arith, c.push_reserved.ensures.len);
      room = omega (arith, c.push_reserved.ensures.capacity);
    }
