use Rattle.std.proofs.Common.{◌∷◌, [], length, length-append, All, sym, subst, ap, ◌∙◌, arith}
use Rattle.std.proofs.lemmas.List.Elements.{All-push}
use Rattle.mbj_manager.specs.Inside.Stock.{IsBlank}
use Rattle.mbj_manager.proofs.cell_ring.all_idle.Goals as goal

pub making-preserved : goal.making-preserved
making-preserved c =
    let was = c.making.invariant in
    let pushed = c.push_reserved.ensures in
    record {
      blanks = subst (All IsBlank) (sym pushed.items) (All-push IsBlank c.making.idle.items c.in_ok-cell.cell was.blanks c.in_ok-cell.ensures);
      all = omega (arith, was.all, ap length pushed.items, length-append c.making.idle.items (c.in_ok-cell.cell ∷ []));
      room = pushed.capacity ∙ was.room;
    }
