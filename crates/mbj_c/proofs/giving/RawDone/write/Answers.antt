-- Status, packet and tag are those of the result.
use Rattle.std.proofs.Common.{sym, subst}
use Rattle.mbj_types.specs.declared.done.Done.{Done}
use Rattle.mbj_stage.specs.CourseState.{owed}
use Rattle.mbj_manager.specs.Cells.{course_in}
use Rattle.mbj_c.specs.Giving.{IsWritten}
use Rattle.mbj_c.proofs.giving.RawDone.write.Goals as goal

pub returns : goal.returns
returns c =
    subst (λ (d : Done). IsWritten (record { done = d; range = c.args.range }) c.args.self.now c.write_parts.new.self)
    (λ i. record { status = c.status.ensures i; packet = c.packet.ensures i; tag = c.tag.ensures i })
    c.write_parts.ensures
