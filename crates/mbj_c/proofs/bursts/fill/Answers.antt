-- Each job of a burst is filled behind those that are.
use Rattle.std.proofs.Common.{◌≤◌, None, Option, Some, arith, length}
use Rattle.std.specs.Prelude.{IfSome}
use Rattle.std.proofs.lemmas.Option.{slice_get-get_or}
use Rattle.mbj_c.specs.Filling.{filled_cell}
use Rattle.mbj_c.specs.State.{RangedState}
use Rattle.mbj_c.proofs.Bursting.{none-taken, taken-next}
use Rattle.mbj_c.proofs.bursts.fill.Goals as goal

nothing-open : (m : Option RangedState) → IfSome m (λ k. 0 ≤ length k.manager.opened)
nothing-open None = tt
nothing-open (Some k) = omega arith

pub filling-init : goal.filling-init
filling-init c = record {
  are = none-taken filled_cell c.args.jobs.now c.args.refusals.now c.args.handle.now.manager;
  cell = nothing-open c.args.handle.now.manager;
}

pub filling-preserved : goal.filling-preserved
filling-preserved c = record {
  are = taken-next filled_cell c.filling.place c.args.jobs.now c.args.refusals.now c.filling.refusals c.args.handle.now.manager c.filling.filled
      c.fill_next.new.filled c.filling.handle.manager c.fill_next.new.handle.manager _ c.fill_next.new.refusal c.filling.invariant.are
      (slice_get-get_or c.args.jobs.now c.filling.place _ (omega (arith, c.filling-test.true, c.min-place-end.ensures)))
      (omega (arith, c.filling-test.true, c.min-place-end.ensures, c.filling.auto.refusals))
      c.fill_next.ensures.answer c.fill_next.ensures.state;
  cell = c.fill_next.ensures.cell;
}
