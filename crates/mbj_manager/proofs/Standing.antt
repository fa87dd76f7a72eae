-- Where each job stands within a course, and where it stands once a lane queue ran.
use Rattle.std.proofs.Common.{◌≡◌, ◌≢◌, ℕ, ◌+◌, ◌≤◌, ◌<◌, ◌==◌, List, [], ◌∷◌, ◌++◌, length, cond, inl, inr, refl, ap, sym, ◌∙◌, subst, arith}
use Rattle.std.proofs.lemmas.Bool.{cases_lt}
use Rattle.std.proofs.lemmas.List.Sums.{sum_by-append}
use Rattle.mbj_types.specs.declared.kind.Kind.{Kind}
use Rattle.mbj_manager.specs.Machine.Stages.{Pending, at_once, in_lanes}
use Rattle.mbj_manager.specs.Machine.Queues.{WaitingJob, Queue, Machine, queue_for, leavers, after_run, shortened, stayers}
use Rattle.mbj_manager.specs.Machine.Between.{IsPlaced, times_in}
use Rattle.mbj_manager.specs.Inside.Standing.{Stands, left_at, times}
use Rattle.mbj_manager.proofs.Lanes.{each-lane}
use Rattle.mbj_manager.proofs.KindLines.{same-kind}
use Rattle.mbj_manager.proofs.Times.{times-leave, times-shortened}
use Rattle.mbj_manager.proofs.StagesLeft.{stage-stays}

-- ---- a job whose places don't change

-- the job n of the machine after stands where the job i of the machine m does
pub same-placed : (m after : Machine) (i n : ℕ)
    → ((j : Kind) → times_in n (queue_for j after).waiting ≡ times_in i (queue_for j m).waiting)
    → (ps : List Pending) → IsPlaced m i ps → IsPlaced after n ps
same-placed m after i n same [] placed = λ k. same k ∙ placed k
same-placed m after i n same (at_once ∷ left) placed = placed
same-placed m after i n same (in_lanes k rest ∷ left) placed = (same k ∙ placed.0, λ j ne. same j ∙ placed.1 j ne)

-- a job stands as it did if its places and its stages are the same
pub same-stands : (m after : Machine) (n : ℕ)
    → ((j : Kind) → times_in n (queue_for j after).waiting ≡ times_in n (queue_for j m).waiting)
    → left_at n after.left ≡ left_at n m.left → times n after.agenda ≡ times n m.agenda → Stands m n → Stands after n
same-stands m after n same left agenda stands = elim stands [
  | inl a ↦ inl (agenda ∙ a.0, same-placed m after n n same [] a.1)
  | inr p ↦ inr (agenda ∙ p.0, subst (IsPlaced after n) (sym left) (same-placed m after n n same (left_at n m.left) p.1))
]

-- ---- a lane queue runs

-- the jobs that leave the lane queue of the kind k when it runs
abbrev pub gone : Kind → Machine → List ℕ
gone k m = leavers (shortened (queue_for k m).waiting)

-- and those that stay
abbrev pub stayed : Kind → Machine → List WaitingJob
stayed k m = stayers (shortened (queue_for k m).waiting)

-- who stood in the lane queue leaves it or stays
gone-or-stayed : (k : Kind) (m : Machine) (n : ℕ)
    → times n (gone k m) + times_in n (stayed k m) ≡ times_in n (queue_for k m).waiting
gone-or-stayed k m n = times-leave n (shortened (queue_for k m).waiting) ∙ times-shortened n (queue_for k m).waiting

-- a job that is placed stands in a lane queue no more often than it has stages left
placed-most : (k : Kind) (m : Machine) (n : ℕ) (ps : List Pending) → IsPlaced m n ps
    → times_in n (queue_for k m).waiting ≤ length ps
placed-most k m n [] placed = omega (arith, placed k)
placed-most k m n (at_once ∷ left) placed = elim placed [ ]
placed-most k m n (in_lanes j rest ∷ left) placed = elim (same-kind k j) [
  | inl e ↦ subst (λ i. times_in n (queue_for i m).waiting ≤ length (in_lanes j rest ∷ left)) (sym e) (omega (arith, placed.0))
  | inr ne ↦ omega (arith, placed.1 k ne)
]

-- no more leave than have stages left
pub gone-most : (k : Kind) (m : Machine) (n : ℕ) → Stands m n → times n (gone k m) ≤ length (left_at n m.left)
gone-most k m n stands = elim stands [
  | inl a ↦ omega (arith, gone-or-stayed k m n, a.1 k)
  | inr p ↦ omega (arith, gone-or-stayed k m n, placed-most k m n (left_at n m.left) p.1)
]

-- a job that is placed and stands in a lane queue stands there once, and in no other lane queue
placed-once : (k : Kind) (m : Machine) (n : ℕ) (ps : List Pending) → IsPlaced m n ps → 0 < times_in n (queue_for k m).waiting
    → (times_in n (queue_for k m).waiting ≡ 1) × ((j : Kind) → j ≢ k → times_in n (queue_for j m).waiting ≡ 0)
placed-once k m n [] placed there = absurd (omega (arith, placed k))
placed-once k m n (at_once ∷ left) placed there = elim placed [ ]
placed-once k m n (in_lanes i rest ∷ left) placed there = elim (same-kind k i) [
  | inl e ↦ subst (λ i. IsPlaced m n (in_lanes i rest ∷ left)) (sym e) placed
  | inr ne ↦ absurd (omega (arith, placed.1 k ne))
]

-- a job that doesn't leave
stays-standing : (k : Kind) (after : List WaitingJob → Queue) (m : Machine) (n : ℕ) → ((ws : List WaitingJob) → (after ws).waiting ≡ ws)
    → times n (gone k m) ≡ 0 → Stands m n → Stands (after_run k after m) n
stays-standing k after m n waiting none stands =
    let here : times_in n (after (stayed k m)).waiting ≡ times_in n (queue_for k m).waiting
    = ap (times_in n) (waiting (stayed k m)) ∙ (let all = gone-or-stayed k m n in omega arith) in
    let agenda : times n (m.agenda ++ gone k m) ≡ times n m.agenda
    = (let more = sum_by-append (λ k. cond (k == n) 1 0) m.agenda (gone k m) in omega arith) in
    same-stands m (after_run k after m) n
    (each-lane (λ j l. times_in n l.waiting ≡ times_in n (queue_for j m).waiting) k (after (stayed k m)) m.lanes here (λ j ne. refl))
    (stage-stays n (gone k m) m.left none) agenda stands

-- a job that leaves stands in the agenda then
leaves-standing : (k : Kind) (after : List WaitingJob → Queue) (m : Machine) (n : ℕ) → ((ws : List WaitingJob) → (after ws).waiting ≡ ws)
    → 0 < times n (gone k m) → Stands m n → Stands (after_run k after m) n
leaves-standing k after m n waiting some stands =
    let all = gone-or-stayed k m n in
    let more = sum_by-append (λ k. cond (k == n) 1 0) m.agenda (gone k m) in
    elim stands [
      | inl a ↦ absurd (omega (arith, a.1 k))
      | inr p ↦
          (let once = placed-once k m n (left_at n m.left) p.1 (omega arith) in
          let off : times n m.agenda ≡ 0 = p.0 in
          let one : times_in n (queue_for k m).waiting ≡ 1 = once.0 in
          let here : times_in n (after (stayed k m)).waiting ≡ 0 = ap (times_in n) (waiting (stayed k m)) ∙ omega arith in
          inl (omega arith, each-lane (λ j l. times_in n l.waiting ≡ 0) k (after (stayed k m)) m.lanes here once.1))
    ]

-- each job stands in one place once the lane queue ran
pub ran-standing : (k : Kind) (after : List WaitingJob → Queue) (m : Machine) (n : ℕ) → ((ws : List WaitingJob) → (after ws).waiting ≡ ws)
    → Stands m n → Stands (after_run k after m) n
ran-standing k after m n waiting stands = elim (cases_lt 0 (times n (gone k m))) [
  | inl some ↦ leaves-standing k after m n waiting some stands
  | inr none ↦ stays-standing k after m n waiting (omega arith) stands
]
