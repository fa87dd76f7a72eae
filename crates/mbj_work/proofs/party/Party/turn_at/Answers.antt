use Rattle.std.proofs.Common.{ap}
use Rattle.mbj_front.specs.Seats.{view_of, cells_of}
use Rattle.mbj_work.proofs.HandTurns.{claims_on}
use Rattle.mbj_work.proofs.Keeping.{keeps_on, keeps_finishing, unfound_still}
use Rattle.mbj_work.proofs.party.Party.turn_at.Goals as goal

pub returns-clause-hand : goal.returns-clause-hand
returns-clause-hand g c =
    let back = c.give_all_back in
    claims_on c.claim_some-turn.result.claimed (view_of c.args.self.now.seat).hand (view_of c.claim_some-turn.new.self.seat).hand
    (view_of back.new.self.seat).hand c.claim_some-turn.ensures.hand back.ensures.hand

pub returns-clause-due : goal.returns-clause-due
returns-clause-due g c =
    let claimed = c.claim_some-turn.ensures.due in
    let w = view_of c.claim_some-turn.new.self.seat in let u = view_of c.give_all_back.new.self.seat in
    keeps_on (view_of c.args.self.now.seat) w u claimed (keeps_finishing w u u.hand claimed.1 c.give_all_back.ensures.part)

pub returns-clause-looks : goal.returns-clause-looks
returns-clause-looks g c =
    unfound_still c.claim_some-turn.result.found_none (cells_of c.args.front.now) (view_of c.args.self.now.seat)
    (view_of c.claim_some-turn.new.self.seat) (view_of c.give_all_back.new.self.seat)
    (ap (λ v. v.looks) c.give_all_back.ensures.part) c.claim_some-turn.ensures.looks
