-- The stages that are left once the first of some jobs is done.
use Rattle.std.proofs.Common.{◌≡◌, ◌≢◌, ℕ, ◌+◌, ◌≤◌, List, [], ◌∷◌, length, inl, inr, refl, ap, sym, ◌∙◌, subst, arith}
use Rattle.std.specs.Prelude.{All, drop}
use Rattle.std.proofs.lemmas.Bool.{cases_eq}
use Rattle.std.proofs.lemmas.List.Elements.{All-tail}
use Rattle.mbj_manager.specs.Machine.Stages.{Pending, at_once, in_lanes}
use Rattle.mbj_manager.specs.Machine.Queues.{changed, stage_done}
use Rattle.mbj_manager.specs.Machine.Course.{in_lanes_next, stages_left}
use Rattle.mbj_manager.specs.Machine.Between.{HasRounds}
use Rattle.mbj_manager.specs.Inside.Standing.{left_at, times}
use Rattle.mbj_manager.proofs.Changing.{at-changed, other-changed, each-changed, length-changed, sum-changed}
use Rattle.mbj_manager.proofs.Times.{times-here, times-there}

-- ---- a stage is done

-- the stages stay of a job of which none is done
pub stage-stays : (n : ℕ) (ns : List ℕ) (left : List (List Pending)) → times n ns ≡ 0
    → left_at n (stage_done ns left) ≡ left_at n left
stage-stays n [] left none = refl
stage-stays n (m ∷ ns) left none = elim (cases_eq m n) [
  | inl e ↦ (let t : times n (m ∷ ns) ≡ 1 + times n ns
      = subst (λ k. times n (k ∷ ns) ≡ 1 + times n ns) (sym e) (times-here n ns) in absurd (omega arith))
  | inr ne ↦ (let t : times n (m ∷ ns) ≡ times n ns = times-there n m ns ne in
      stage-stays n ns (changed (drop 1) m left) (sym t ∙ none) ∙ other-changed (drop 1) [] m n left (λ e. ne (sym e)))
]

-- a stage that is done is one less
length-without_first : (ps : List Pending) → 1 ≤ length ps → length (drop 1 ps) + 1 ≡ length ps
length-without_first [] some = absurd (omega arith)
length-without_first (p ∷ ps) some = omega arith

-- each stage that is done is one less, if the jobs have this many
pub fewer-stages : (ns : List ℕ) (left : List (List Pending)) → ((n : ℕ) → times n ns ≤ length (left_at n left))
    → stages_left (stage_done ns left) + length ns ≡ stages_left left
fewer-stages [] left some = omega arith
fewer-stages (m ∷ ns) left some =
    let next = changed (drop 1) m left in
    let one : 1 ≤ length (left_at m left) = omega (arith, times-here m ns, some m) in
    let taken = sum-changed length (drop 1) [] refl m left in
    let shorter = length-without_first (left_at m left) one in
    let rest = fewer-stages ns next (λ n. elim (cases_eq m n) [
      | inl e ↦ subst (λ n. times n ns ≤ length (left_at n next)) e
          (let there : length (left_at m next) ≡ length (drop 1 (left_at m left))
          = ap length (at-changed (drop 1) [] refl m left) in
          omega (arith, times-here m ns, some m, shorter))
      | inr ne ↦ (let there : length (left_at n next) ≡ length (left_at n left)
          = ap length (other-changed (drop 1) [] m n left (λ e. ne (sym e))) in
          omega (arith, times-there n m ns ne, some n))
    ]) in
    omega (arith, taken, shorter, rest)

-- there are as many jobs as before
pub length-stage_done : (ns : List ℕ) (left : List (List Pending)) → length (stage_done ns left) ≡ length left
length-stage_done [] left = refl
length-stage_done (n ∷ ns) left = length-stage_done ns (changed (drop 1) n left) ∙ length-changed (drop 1) n left

-- the stages behind the first have rounds
without_first-rounds : (ps : List Pending) → All HasRounds ps → All HasRounds (drop 1 ps)
without_first-rounds [] rounds = rounds
without_first-rounds (p ∷ ps) rounds = All-tail HasRounds p ps rounds

-- the stages that are left have rounds
pub rounds-done : (ns : List ℕ) (left : List (List Pending)) → ((n : ℕ) → All HasRounds (left_at n left))
    → (n : ℕ) → All HasRounds (left_at n (stage_done ns left))
rounds-done [] left rounds = rounds
rounds-done (m ∷ ns) left rounds =
    rounds-done ns (changed (drop 1) m left) (each-changed (All HasRounds) (drop 1) [] without_first-rounds m left rounds)

-- ---- what finishes at once is done

-- the next stage is in lanes
pub next-in-lanes : (ps left : List Pending) → in_lanes_next ps ≢ at_once ∷ left
next-in-lanes [] left = λ e. cc
next-in-lanes (at_once ∷ ps) left = next-in-lanes ps left
next-in-lanes (in_lanes k rest ∷ ps) left = λ e. cc

-- the stages from the next one in lanes on have rounds
pub next-rounds : (ps : List Pending) → All HasRounds ps → All HasRounds (in_lanes_next ps)
next-rounds [] rounds = rounds
next-rounds (at_once ∷ ps) rounds = next-rounds ps (All-tail HasRounds at_once ps rounds)
next-rounds (in_lanes k rest ∷ ps) rounds = rounds

-- they are no more than before
next-shorter : (ps : List Pending) → length (in_lanes_next ps) ≤ length ps
next-shorter [] = omega arith
next-shorter (at_once ∷ ps) = omega (arith, next-shorter ps)
next-shorter (in_lanes k rest ∷ ps) = omega arith

-- so no job has more stages left
pub no-more-stages : (n : ℕ) (left : List (List Pending)) → stages_left (changed in_lanes_next n left) ≤ stages_left left
no-more-stages n left = omega (arith, sum-changed length in_lanes_next [] refl n left, next-shorter (left_at n left))
