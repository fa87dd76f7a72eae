use Rattle.mbj_stage.proofs.Handings.{owes-the-same}
use Rattle.mbj_stage.proofs.laws.a_course_owes_the_same_while_it_is_out.Goals as goal

pub returns : goal.returns
returns c = owes-the-same
