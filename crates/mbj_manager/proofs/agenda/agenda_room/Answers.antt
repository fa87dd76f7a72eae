-- The next kind's room goes from those that are left to the room so far.
use Rattle.std.proofs.Common.{◌≡◌, ◌+◌, ◌-◌, ◌∙◌, ℕ, drop, sum_by, slice_index_or, refl, ap, arith}
use Rattle.std.proofs.lemmas.List.{drop_more}
use Rattle.std.proofs.lemmas.List.Sums.{sum_by-cons}
use Rattle.mbj_types.specs.declared.kind.Kind.{Kind}
use Rattle.mbj_types.specs.declared.kind.Kind.TheVariants as kind
use Rattle.mbj_types.specs.Kinds.{all_kinds, lanes_of}
use Rattle.mbj_manager.proofs.Lanes.{some-lanes}
use Rattle.mbj_manager.proofs.agenda.agenda_room.Goals as goal

pub kinds-preserved : goal.kinds-preserved
kinds-preserved c =
    let i = c.kinds.kind-index in
    let room : Kind → ℕ = λ k. lanes_of k - 1 in
    let x = slice_index_or all_kinds i kind.Cbc128 in
    let step : sum_by room (drop i all_kinds) ≡ room x + sum_by room (drop (i + 1) all_kinds)
    = ap (sum_by room) (drop_more all_kinds i kind.Cbc128 (omega arith)) ∙ sum_by-cons room x (drop (i + 1) all_kinds) in
    record {
      items = refl;
      left = omega (arith, step, c.lanes.ensures, c.kinds.invariant.left, some-lanes x);
    }
