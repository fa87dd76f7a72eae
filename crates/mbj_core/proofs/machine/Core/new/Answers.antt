use Rattle.std.proofs.Common.{sym, subst}
use Rattle.mbj_core.specs.Parties.{new_front}
use Rattle.mbj_core.specs.Stands.{StandsFor}
use Rattle.mbj_core.specs.declared.machine.Core.TheInside.{Inside}
use Rattle.mbj_core.proofs.New.{new_is, is_new, new_stands}
use Rattle.mbj_core.proofs.machine.Core.new.Goals as goal

pub invariant_of-result : goal.invariant_of-result
invariant_of-result c =
    let outs = (c.in_ok-vec.ensures {u = tt}).items_if_clones_equal (λ y e. e) in
    is_new _ (c.in_ok-cells.ensures {u = tt}) (c.in_ok-hands.ensures {u = tt}) outs c.requires.submitters.0 c.requires.submitters.1 c.requires.workers

pub returns : goal.returns
returns c =
    let outs = (c.in_ok-vec.ensures {u = tt}).items_if_clones_equal (λ y e. e) in
    let a : Inside = record {
      submitters = c.args.submitters;
      workers = c.args.workers;
      cells = c.in_ok-cells.cells;
      hands = c.in_ok-hands.hands;
      outs = c.in_ok-vec.field-0;
    } in
    let same = new_is a (c.in_ok-cells.ensures {u = tt}) (c.in_ok-hands.ensures {u = tt}) outs in
    record { empty = same; stands = subst (λ core. StandsFor core new_front) (sym same) (new_stands c.args.submitters c.args.workers) }
