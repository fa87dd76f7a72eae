-- The entry that joins the list has a round left.
use Rattle.std.proofs.Common.{◌≤◌, IfSome, sym, subst}
use Rattle.std.specs.List.{All}
use Rattle.std.proofs.lemmas.List.Elements.{All-push}
use Rattle.mbj_bench.proofs.lists.Filled.enter.Goals as goal

pub invariant_of-self : goal.invariant_of-self
invariant_of-self g c =
    let HasRound = λ (e : g.row.K-Entry.Denot). 1 ≤ g.K.Kernel.rest_of e in
    let old = c.args.self.now.lanes.entries in
    let some : HasRound c.in-Some.entry = subst (λ o. IfSome o HasRound) c.in-Some.is c.requires in
    record {
      rests = subst (All HasRound) (sym c.enter.ensures.entries) (All-push HasRound old c.in-Some.entry c.args.self.now.rests some);
    }
