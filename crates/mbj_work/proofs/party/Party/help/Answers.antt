use Rattle.std.proofs.Common.{sym, subst}
use Rattle.mbj_front.specs.Seats.{view_of}
use Rattle.mbj_work.specs.Parties.{KeepsDue}
use Rattle.mbj_work.specs.declared.party.Party.{Party}
use Rattle.mbj_work.proofs.Keeping.{keeps_on, keeps_finishing}
use Rattle.mbj_work.proofs.party.Party.help.Goals as goal
use Rattle.mbj_work.proofs.party.Party.help.Goals.{then-claim_own, else-claim_own}

pub returns-clause-due : goal.returns-clause-due
returns-clause-due g c =
    let v = view_of c.args.self.now.seat in let own = view_of c.claim_own.new.self.seat in
    let w = view_of c.if-claim_own.self.seat in let u = view_of c.give_all_back.new.self.seat in
    let claimed = keeps_on v (view_of c.has_first-from_first.new.self.seat) own c.has_first-from_first.ensures.due c.claim_own.ensures.due in
    let helped : KeepsDue v w = elim c.if-claim_own.branch [
      | then-claim_own b ↦ subst (λ (p : Party). KeepsDue v (view_of p.seat)) (sym b.self-is) claimed
      | else-claim_own b ↦ subst (λ (p : Party). KeepsDue v (view_of p.seat)) (sym b.self-is)
          (keeps_on v own (view_of b.settle_at-helped.new.self.seat) claimed b.settle_at-helped.ensures.due)
    ] in keeps_on v w u helped (keeps_finishing w u u.hand helped.1 c.give_all_back.ensures.part)
