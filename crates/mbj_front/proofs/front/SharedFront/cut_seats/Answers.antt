use Rattle.std.proofs.Common.{sym, subst, ap, ◌∙◌, ◌≡◌, ◌+◌, ◌*◌, ℕ, List, [], ⊎_elim, arith}
use Rattle.std.specs.Prelude.{slice_get, Some}
use Rattle.atomic_table.specs.Table.{Splits}
use Rattle.mbj_core.specs.declared.cells.TheConstants.{SUBMITTER_CELLS}
use Rattle.mbj_core.specs.Parties.{new_party}
use Rattle.mbj_core.proofs.Entries.{at_end}
use Rattle.mbj_front.specs.Rule.{Rule, root, place}
use Rattle.mbj_front.specs.declared.place.Place.{Place}
use Rattle.mbj_front.specs.declared.seat.PartySeat.{PartySeat}
use Rattle.mbj_front.proofs.Cutting.{cuts}
use Rattle.mbj_front.proofs.Kept.{nothing_at, kept_cut}
use Rattle.mbj_front.proofs.front.SharedFront.cut_seats.Goals as goal

pub loop-party-init : goal.loop-party-init
loop-party-init g c = record {
  table = c.requires.table;
  cut = c.requires.uncut;
  parties = c.new-seats.ensures.len;
  seats = λ p seat e. absurd (nothing_at p seat (subst (λ (l : List (PartySeat g.row.J.Denot g.row.D.Denot)). slice_get l p ≡ Some seat) c.new-seats.ensures.items e));
}

pub split_seat-inner-requires : goal.split_seat-inner-requires
split_seat-inner-requires g c = let front = c.args.self.now in let inv = c.loop-party.invariant in let size = front.table.shared.key in let id = c.loop-party.whole.id in let p = c.loop-party.party in (
  inv.table,
  omega (arith, front.wide, front.some_submitter),
  subst (λ (x : Place g.row.D.Denot). Splits (Rule g.R.Results.owed size.submitters size.workers) id x (root x.submitters x.workers (x.view.number + 1)) (place x.submitters x.workers (new_party x.view.number))) (sym (ap (λ m. m.0) inv.cut))
      (cuts g.R.Results.owed size.submitters size.workers id p (omega (arith, c.requires.parties, c.loop-party-test.true))),
)

pub loop-party-preserved : goal.loop-party-preserved
loop-party-preserved g c = let inv = c.loop-party.invariant in let cut = c.split_seat-inner.ensures in let pushed = c.in_ok-push.ensures in let S = PartySeat g.row.J.Denot g.row.D.Denot in
    let p : ℕ = c.loop-party.party in let whole = ap (λ m. m.0) inv.cut in record {
      table = cut.0 ∙ inv.table;
      cut = cut.2 ∙ (λ i. (root (whole i).submitters (whole i).workers ((whole i).view.number + 1), ap (λ m. m.1) inv.cut i));
      parties = pushed.len ∙ ap (λ (n : ℕ). n + 1) inv.parties;
      seats = λ q seat e. ⊎_elim (λ old. inv.seats q seat old)
          (λ new. let same : p ≡ q = omega (arith, new.0, inv.parties) in let me = ap (λ (s : S). s.inner.me.0) (sym new.1) ∙ ap (λ m. m.0) cut.4 in
          let placed = me ∙ (λ i. place (whole i).submitters (whole i).workers (new_party (whole i).view.number)) in (
            (ap (λ (s : S). s.inner.table_id) (sym new.1) ∙ cut.3 ∙ inv.table, ap (λ (x : Place g.row.D.Denot). x.submitters) placed, ap (λ (x : Place g.row.D.Denot). x.workers) placed),
            ap (λ (x : Place g.row.D.Denot). x.view) placed ∙ ap (λ (n : ℕ). new_party n) same,
          ))
          (at_end c.loop-party.seats.items _ seat q (subst (λ (l : List S). slice_get l q ≡ Some seat) pushed.items e));
    }

pub invariant_of-push : goal.invariant_of-push
invariant_of-push g c = let front = c.args.self.now in let inv = c.loop-party.invariant in let cut = c.split_seat-inner.ensures in let p : ℕ = c.loop-party.party in
    let whole = ap (λ m. m.0) inv.cut in
    record {
      keeps = kept_cut _ front.table.shared.key.submitters front.table.shared.key.workers p _
          (ap (λ i. i.words) (cut.3 ∙ inv.table) ∙ front.wide ∙ ap (λ (n : ℕ). SUBMITTER_CELLS * n) (sym front.submitters_are))
          (cut.4 ∙ (λ i. (place (whole i).submitters (whole i).workers (new_party (whole i).view.number), [])))
          (omega (arith, front.submitters_are, front.few_submitters)) c.requires.workers (omega (arith, c.requires.parties, c.loop-party-test.true));
    }

pub returns-clause-parties : goal.returns-clause-parties
returns-clause-parties g c = c.loop-party.invariant.parties ∙ omega (arith, c.loop-party-test.false, c.loop-party.auto.party-end)

pub returns-clause-seats : goal.returns-clause-seats
returns-clause-seats g c = c.loop-party.invariant.seats
