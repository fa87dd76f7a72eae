use Rattle.std.proofs.Common.{◌≡◌, ℕ, ◌-◌, ◌++◌, zero, suc, List, [], ◌∷◌, map, ap, ap₂, refl, ◌∙◌, arith}
use Rattle.std.proofs.lemmas.List.{take_all, drop_all, append-nil}
use Rattle.mbj_lane.specs.Rounds.{after}
use Rattle.mbj_job_tests.specs.declared.lane.Waiter.{Waiter}
use Rattle.mbj_job_tests.proofs.lane.WaitingKernel.run.Goals as goal

abbrev waited : ℕ → Waiter → Waiter
waited m w = record w { turns = w.turns - m }

waited_on : (m : ℕ) (w : Waiter) → waited m w ≡ after (waited 1) m w
waited_on zero w = let z : w.turns - 0 ≡ w.turns = omega arith in ap (λ n. record w { turns = n }) z
waited_on (suc m) w =
    let sum : w.turns - suc m ≡ w.turns - 1 - m = omega arith in
    ap (λ n. record w { turns = n }) sum ∙ waited_on m (waited 1 w)

all_waited : (m : ℕ) (ws : List Waiter) → map (waited m) ws ≡ map (after (waited 1) m) ws
all_waited m [] = refl
all_waited m (w ∷ ws) = ap₂ (λ x xs. x ∷ xs) (waited_on m w) (all_waited m ws)

pub returns : goal.returns
returns c =
    let ws = c.args.entries.now in
    let i = c.waiters.entry-index in
    c.waiters.invariant
    ∙ ap₂ (λ front back. map (waited c.args.m) front ++ back) (take_all i ws (omega arith)) (drop_all i ws (omega arith))
    ∙ append-nil (map (waited c.args.m) ws) ∙ all_waited c.args.m ws
