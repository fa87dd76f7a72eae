use Rattle.std.proofs.Common.{◌∙◌, ap}
use Rattle.mbj_stage.specs.CourseState.{owed}
use Rattle.mbj_stage.proofs.Owing.{owed-begun}
use Rattle.mbj_stage.proofs.course.Course.begin_in_place.Goals as goal

pub returns-clause-owed : goal.returns-clause-owed
returns-clause-owed c = ap owed c.begin_over.ensures ∙ owed-begun c.args.self.now.job
