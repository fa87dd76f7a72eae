use Rattle.std.proofs.Common.{sym, subst, slice_index_or}
use Rattle.mbj_stage.specs.Handing.{IsOut}
use Rattle.mbj_manager.specs.Cells.{Cell, course_in}
use Rattle.mbj_manager.proofs.lane_queue.leave_to.Goals as goal

pub leave_to-requires-clause-may : goal.leave_to-requires-clause-may
leave_to-requires-clause-may g c d =
    subst (λ (v : Cell). IsOut g.K.JobKernel.kind (g.K.JobKernel.brings (slice_index_or c.args.lanes.now.entries c.args.k d)) (course_in v)) (sym c.course_mut.ensures.value) (c.requires.out d)
