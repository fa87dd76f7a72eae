use Rattle.std.proofs.Common.{◌∙◌, ap}
use Rattle.mbj_stage.specs.CourseState.{owed}
use Rattle.mbj_stage.proofs.Owing.{owed-ran}
use Rattle.mbj_stage.proofs.course.Course.run_now.Goals as goal

pub returns-clause-owed : goal.returns-clause-owed
returns-clause-owed c = ap owed c.run.ensures ∙ owed-ran c.args.self.now c.requires
