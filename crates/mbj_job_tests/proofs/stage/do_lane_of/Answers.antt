-- What is handed out is still out once it is advanced to its end, and its stage is done once it is back.
use Rattle.std.proofs.Common.{sym, subst}
use Rattle.mbj_stage.specs.Handing.{IsOut}
use Rattle.mbj_stage.proofs.Handings.{is-back}
use Rattle.mbj_job_tests.proofs.stage.do_lane_of.Goals as goal

pub take_back-requires-clause-out : goal.take_back-requires-clause-out
take_back-requires-clause-out g c =
    subst (λ e. IsOut g.K.JobKernel.kind (g.K.JobKernel.brings e) c.hand_out-entry.new.course) (sym c.advanced.ensures.end) c.hand_out-entry.ensures.is_out

pub returns-clause-here : goal.returns-clause-here
returns-clause-here g c =
    (is-back c.args.course.now c.hand_out-entry.new.course c.take_back.new.course (g.K.JobKernel.brings c.advanced.result) g.K.JobKernel.kind
    c.hand_out-entry.ensures.out c.requires.next.stage c.take_back.ensures).here

pub returns-clause-fewer : goal.returns-clause-fewer
returns-clause-fewer g c =
    (is-back c.args.course.now c.hand_out-entry.new.course c.take_back.new.course (g.K.JobKernel.brings c.advanced.result) g.K.JobKernel.kind
    c.hand_out-entry.ensures.out c.requires.next.stage c.take_back.ensures).fewer
