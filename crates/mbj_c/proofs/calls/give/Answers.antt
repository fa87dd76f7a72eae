-- The handle has what the manager's own call left.
use Rattle.std.proofs.Common.{Option, subst}
use Rattle.mbj_c.specs.Giving.{IsReturned, answered, called_in}
use Rattle.mbj_c.specs.State.{RangedState}
use Rattle.mbj_c.proofs.calls.give.Goals as goal

pub returns-in-Some-clause-returned : goal.returns-in-Some-clause-returned
returns-in-Some-clause-returned c =
    let returned = subst (λ (m : RangedState). IsReturned (called_in c.args.call m c.args.out.now).0 c.give-is_given.result c.give-is_given.new.refusal c.args.out.now
    c.give-is_given.new.out) c.deref_mut.ensures.value c.give-is_given.ensures.returned in
    subst (λ (m : Option RangedState). IsReturned (answered c.args.call m c.args.out.now).0 c.give-is_given.result c.give-is_given.new.refusal c.args.out.now
    c.give-is_given.new.out) c.in-Some.ensures.manager returned
