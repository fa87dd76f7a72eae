use Rattle.std.proofs.Common.{◌≡◌, ℕ, [], ◌∷◌, ◌++◌, List, Option, None, Some, sym, ap, ◌∙◌}
use Rattle.mbj_types.specs.declared.done.Done.{Done}
use Rattle.mbj_types.specs.Result.{result_of}
use Rattle.mbj_core.specs.declared.party.View.{View}
use Rattle.mbj_front.specs.Seats.{view_of}
use Rattle.mbj_front.specs.Views.{after_claim}
use Rattle.mbj_front.specs.declared.front.SharedFront.{SharedFront}
use Rattle.mbj_front.specs.declared.standard.Standard.{Standard}
use Rattle.mbj_types.specs.declared.job.Job.{Job}
use Rattle.mbj_work.specs.Claims.{FinishesGiven}
use Rattle.mbj_work.specs.Turns.{GivesBack}
use Rattle.mbj_work.proofs.HandTurns.{claimed_hand, finishes_hand, gives_none, gives_on}
use Rattle.mbj_work.proofs.Keeping.{keeps_on, keeps_looking}
use Rattle.mbj_work.proofs.party.Party.claim_ready.Goals as goal

-- what is left of the hand once the job came to its end
given_hand : (front : SharedFront Job Done Standard) (o : Option Done) (v w : View Done) → FinishesGiven front o v w → GivesBack v.hand w.hand
given_hand front None v w is = (0, ap (λ u. u.hand) is)
given_hand front (Some d) v w f = finishes_hand v w f.cell d f.more f.first f.part

pub returns-then-hand-eq-HAND_ROOM-clause-hand : goal.returns-then-hand-eq-HAND_ROOM-clause-hand
returns-then-hand-eq-HAND_ROOM-clause-hand g c = gives_none (view_of c.args.self.now.seat).hand

pub returns-then-scan-ne-READY-clause-hand : goal.returns-then-scan-ne-READY-clause-hand
returns-then-scan-ne-READY-clause-hand g c = (0, ap (λ u. u.hand) c.scan.ensures.view)

pub returns-in-Yes-clause-hand : goal.returns-in-Yes-clause-hand
returns-in-Yes-clause-hand g c =
    let v = view_of c.args.self.now.seat in let s = view_of c.scan.new.seat in let w = view_of c.claim_at.new.self.seat in
    let p = c.in-Yes.ensures.part in
    let d = result_of p.job in
    let same : s.hand ≡ v.hand = ap (λ u. u.hand) c.scan.ensures.view in
    claimed_hand v w c.args.cell d
    (gives_on (v.hand ++ (c.args.cell, d) ∷ []) (s.hand ++ (c.args.cell, d) ∷ []) w.hand
    (0, ap (λ (l : List (ℕ × Done)). l ++ (c.args.cell, d) ∷ []) same)
    (given_hand c.args.front.now _ (after_claim s c.args.cell d) w p.part))
