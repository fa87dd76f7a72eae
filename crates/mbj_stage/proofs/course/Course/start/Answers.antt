use Rattle.std.proofs.Common.{None, subst, sym}
use Rattle.mbj_stage.specs.declared.lengths.Lengths.{Lengths}
use Rattle.mbj_stage.specs.Inside.Kept.{IsSound}
use Rattle.mbj_stage.specs.Steps.{steps_in}
use Rattle.mbj_stage.proofs.Schedules.{keyed-begun}
use Rattle.mbj_stage.proofs.Soundness.{sound_begun}
use Rattle.mbj_stage.proofs.course.Course.start.Goals as goal

pub invariant_of-result : goal.invariant_of-result
invariant_of-result c =
    let left = steps_in c.steps_by-left.result in
    record {
      sound = subst (λ (n : Lengths). IsSound c.args.job left None n) (sym c.lengths_of-lengths.ensures)
          (sound_begun c.args.reason c.args.job left (sym c.requires.reason) c.steps_by-left.ensures);
      keyed = keyed-begun c.args.reason c.args.job left c.args.schedule c.steps_by-left.ensures c.requires.wanted c.requires.schedule;
      wanted = c.requires.wanted;
    }
