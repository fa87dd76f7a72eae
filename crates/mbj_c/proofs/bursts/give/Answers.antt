-- Each call has the room of the place that the next result has.
use Rattle.std.proofs.Common.{arith, subst, sym}
use Rattle.std.proofs.lemmas.Option.{slice_get-get_or}
use Rattle.mbj_c.specs.declared.bursts.RawBurst.{RawBurst}
use Rattle.mbj_c.proofs.Bursting.{AreGiven, given-next, none-given}
use Rattle.mbj_c.proofs.bursts.give.Goals as goal

pub calling-init : goal.calling-init
calling-init c =
    subst (λ (returned : RawBurst). AreGiven 0 c.args.call c.args.outs.now c.args.outs.now c.args.handle.now.manager returned c.args.handle.now.manager)
    (sym c.new.ensures) (none-given c.args.call c.args.outs.now c.args.handle.now.manager)

pub calling-preserved : goal.calling-preserved
calling-preserved c =
    given-next c.calling.turn c.args.call c.args.outs.now c.calling.outs c.args.handle.now.manager c.calling.handle.manager
    c.give_next.new.handle.manager c.calling.returned c.give_next.new.returned _ c.give_next.new.out c.calling.invariant
    (slice_get-get_or c.calling.outs c.calling.returned.given _ (omega (arith, c.calling.invariant.given, c.calling-test.true, c.calling.auto.outs)))
    c.give_next.ensures.state c.give_next.ensures.returned
