-- The lines of a burst, put together from those of its parts.
use Rattle.std.proofs.Common.{◌≡◌, ◌∙◌, ◌+◌, ◌-◌, ◌<◌, ◌≤◌, ◌++◌, ◌==◌, [], ◌∷◌, ℕ, zero, suc, List, Bool, false, if◌then◌else◌, length, drop, take, min, set, replicate, inl, inr, refl, ap, ap₂, sym, append_assoc, arith}
use Rattle.std.proofs.lemmas.List.{drop-take, drop_all, drop_min, length-take, take-append-drop, take-take, take_all, take_min}
use Rattle.std.proofs.lemmas.Bool.{cases_lt, ne_eqb}
use Rattle.mbj_types.specs.declared.job.Job.{Job}
use Rattle.mbj_ring.specs.declared.ring.TheConstants.{CELLS}
use Rattle.mbj_manager.specs.Calls as calls
use Rattle.mbj_text.proofs.Tellings.{after-told}
use Rattle.mbj_text.specs.Telling.{Told, then_told}
use Rattle.mbj_burst.specs.Burst.{Bursting, burst_told, calls_told, cells_left, flushes_told, group_told, groups_told, new_bursting, room_told, submit_told}
use Rattle.mbj_burst.specs.declared.line.BurstLine.{BurstLine}
use Rattle.mbj_burst.specs.declared.line.BurstLine.TheVariants as line

-- ---- what is left to tell

-- what is left of some steps, of which one is told at a time, leads to what all of them lead to
pub record IsLeft (left : ℕ) (next : ℕ → Bursting → Told BurstLine Bursting) (lines : List BurstLine) (b : Bursting) (all : List BurstLine) (end : Bursting) : Type 0 where
  pub steps : ℕ
  pub enough : left ≤ steps
  pub told : lines ++ (next steps b).0 ≡ all
  pub state : (next steps b).1 ≡ end

-- once the first part is told, the second is left
pub told-first : (first : Told BurstLine Bursting) (next : Bursting → Told BurstLine Bursting) (lines new all : List BurstLine) (b end : Bursting)
    → new ≡ lines ++ first.0 → b ≡ first.1 → lines ++ (then_told first next).0 ≡ all → (then_told first next).1 ≡ end
    → (new ++ (next b).0 ≡ all) × ((next b).1 ≡ end)
told-first first next lines new all b end is_new is_b whole last = (
  ap (λ (s : Bursting). new ++ (next s).0) is_b ∙ ap (λ (ls : List BurstLine). ls ++ (next first.1).0) is_new
      ∙ append_assoc lines first.0 (next first.1).0 ∙ whole,
  ap (λ (s : Bursting). (next s).1) is_b ∙ last,
)

-- ---- a group

pub group-more : (size bursts : ℕ) (js : List Job) (b : Bursting) → 0 < length js
    → group_told size (suc bursts) js b
    ≡ then_told (room_told size b) (λ b. then_told (submit_told (take (cells_left b) js) b) (group_told size bursts (drop (cells_left b) js)))
group-more size bursts [] b some = absurd (omega (arith, some))
group-more size bursts (j ∷ js) b some = refl

-- the jobs for which cells are left are the first of the group
pub group-first : (js : List Job) (rest cells n : ℕ) → n ≡ min rest cells → take cells (take rest js) ≡ take n js
group-first js rest cells n is =
    elim (cases_lt cells rest) as (λ _. take cells (take rest js) ≡ take n js) [
      | inl few ↦ take-take cells rest js (omega (arith, few)) ∙ ap (λ k. take k js) (let e : cells ≡ n = omega (arith, is, few) in e)
      | inr many ↦ take_all cells (take rest js) (omega (arith, length-take rest js, many)) ∙ ap (λ k. take k js) (let e : rest ≡ n = omega (arith, is, many) in e)
    ]

-- and the others are left
pub group-others : (js : List Job) (rest cells n : ℕ) → n ≡ min rest cells → drop cells (take rest js) ≡ take (rest - n) (drop n js)
group-others js rest cells n is =
    elim (cases_lt cells rest) as (λ _. drop cells (take rest js) ≡ take (rest - n) (drop n js)) [
      | inl few ↦
          let e : cells ≡ n = omega (arith, is, few) in
          let s : n + (rest - n) ≡ rest = omega (arith, is, few) in
          ap (λ k. drop k (take rest js)) e ∙ ap (λ k. drop n (take k js)) (sym s) ∙ drop-take n (rest - n) js
      | inr many ↦
          let e : 0 ≡ rest - n = omega (arith, is, many) in
          drop_all cells (take rest js) (omega (arith, length-take rest js, many)) ∙ ap (λ k. take k (drop n js)) e
    ]

-- a burst of a group
pub group-step : (size rest n steps : ℕ) (js left : List Job) (lines one two all : List BurstLine) (b b1 b2 end : Bursting)
    → 0 < rest → rest ≤ length js → rest ≤ steps → 0 < n → n ≡ min rest (cells_left b1) → left ≡ drop n js
    → one ≡ lines ++ (room_told size b).0 → b1 ≡ (room_told size b).1
    → two ≡ one ++ (submit_told (take n js) b1).0 → b2 ≡ (submit_told (take n js) b1).1
    → lines ++ (group_told size steps (take rest js) b).0 ≡ all → (group_told size steps (take rest js) b).1 ≡ end
    → IsLeft (rest - n) (λ k. group_told size k (take (rest - n) left)) two b2 all end
group-step size rest n zero js left lines one two all b b1 b2 end some within enough more is_n is_left is_one is_b1 is_two is_b2 whole last = absurd (omega (arith, some, enough))
group-step size rest n (suc steps) js left lines one two all b b1 b2 end some within enough more is_n is_left is_one is_b1 is_two is_b2 whole last =
    let group : List Job = take rest js in
    let burst : Bursting → Told BurstLine Bursting
    = λ s. then_told (submit_told (take (cells_left s) group) s) (group_told size steps (drop (cells_left s) group)) in
    let told = group-more size steps group b (omega (arith, length-take rest js, some, within)) in
    let room = told-first (room_told size b) burst lines one all b1 end is_one is_b1
    (ap (λ (t : Told BurstLine Bursting). lines ++ t.0) (sym told) ∙ whole) (ap (λ (t : Told BurstLine Bursting). t.1) (sym told) ∙ last) in
    let others : drop (cells_left b1) group ≡ take (rest - n) left
    = group-others js rest (cells_left b1) n is_n ∙ ap (λ (ks : List Job). take (rest - n) ks) (sym is_left) in
    let same : burst b1 ≡ then_told (submit_told (take n js) b1) (group_told size steps (take (rest - n) left))
    = ap₂ (λ (ks ls : List Job). then_told (submit_told ks b1) (group_told size steps ls)) (group-first js rest (cells_left b1) n is_n) others in
    let rests = told-first (submit_told (take n js) b1) (group_told size steps (take (rest - n) left)) one two all b2 end is_two is_b2
    (ap (λ (t : Told BurstLine Bursting). one ++ t.0) (sym same) ∙ room.0) (ap (λ (t : Told BurstLine Bursting). t.1) (sym same) ∙ room.1) in
    record { steps = steps; enough = omega (arith, enough, more); told = rests.0; state = rests.1 }

-- the jobs of one burst, and then those of the next
pub take-add : (p n : ℕ) (js : List Job) → take p js ++ take n (drop p js) ≡ take (p + n) js
take-add p n js =
    ap₂ (λ (a b : List Job). a ++ b) (sym (take-take p (p + n) js (omega arith))) (sym (drop-take p n js)) ∙ take-append-drop p (take (p + n) js)

-- ---- the groups

pub groups-more : (size groups : ℕ) (js : List Job) (b : Bursting) → 0 < length js
    → groups_told size (suc groups) js b ≡ then_told (group_told size size (take size js) b) (groups_told size groups (drop size js))
groups-more size groups [] b some = absurd (omega (arith, some))
groups-more size groups (j ∷ js) b some = refl

-- a group
pub groups-step : (size n now steps : ℕ) (js left : List Job) (lines new all : List BurstLine) (b b1 end : Bursting)
    → 0 < length js → length js ≤ steps → 0 < n → n ≡ min (length js) size → now + n ≡ length js → left ≡ drop n js
    → new ≡ lines ++ (group_told size size (take n js) b).0 → b1 ≡ (group_told size size (take n js) b).1
    → lines ++ (groups_told size steps js b).0 ≡ all → (groups_told size steps js b).1 ≡ end
    → IsLeft now (λ k. groups_told size k left) new b1 all end
groups-step size n now zero js left lines new all b b1 end some enough more is_n is_now is_left is_new is_b1 whole last = absurd (omega (arith, some, enough))
groups-step size n now (suc steps) js left lines new all b b1 end some enough more is_n is_now is_left is_new is_b1 whole last =
    let n_is : min size (length js) ≡ n = omega (arith, is_n) in
    let first : take size js ≡ take n js = sym (take_min size js) ∙ ap (λ k. take k js) n_is in
    let others : drop size js ≡ left = sym (drop_min size js) ∙ ap (λ k. drop k js) n_is ∙ sym is_left in
    let told : groups_told size (suc steps) js b ≡ then_told (group_told size size (take n js) b) (groups_told size steps left)
    = groups-more size steps js b some ∙ ap₂ (λ (ks ls : List Job). then_told (group_told size size ks b) (groups_told size steps ls)) first others in
    let rests = told-first (group_told size size (take n js) b) (groups_told size steps left) lines new all b1 end is_new is_b1
    (ap (λ (t : Told BurstLine Bursting). lines ++ t.0) (sym told) ∙ whole) (ap (λ (t : Told BurstLine Bursting). t.1) (sym told) ∙ last) in
    record { steps = steps; enough = omega (arith, enough, is_now, more); told = rests.0; state = rests.1 }

-- ---- the flushes

-- a flush that gave something back
pub flushed-some : (left steps : ℕ) (lines new all : List BurstLine) (b b1 end : Bursting) → left < steps → length b.results < length b1.results
    → new ≡ lines ++ (calls_told line.Flush (replicate CELLS calls.flush) b).0 → b1 ≡ (calls_told line.Flush (replicate CELLS calls.flush) b).1
    → lines ++ (flushes_told steps b).0 ≡ all → (flushes_told steps b).1 ≡ end
    → IsLeft left flushes_told new b1 all end
flushed-some left zero lines new all b b1 end below more is_new is_b1 whole last = absurd (omega (arith, below))
flushed-some left (suc steps) lines new all b b1 end below more is_new is_b1 whole last =
    let one : Told BurstLine Bursting = calls_told line.Flush (replicate CELLS calls.flush) b in
    let apart : (length one.1.results == length b.results) ≡ false
    = ne_eqb (length one.1.results) (length b.results) (λ e. absurd (omega (arith, e, more, ap (λ (s : Bursting). length s.results) is_b1))) in
    let told : flushes_told (suc steps) b ≡ then_told one (flushes_told steps)
    = ap (λ (t : Bool). if t then one else then_told one (flushes_told steps)) apart in
    let rests = told-first one (flushes_told steps) lines new all b1 end is_new is_b1
    (ap (λ (t : Told BurstLine Bursting). lines ++ t.0) (sym told) ∙ whole) (ap (λ (t : Told BurstLine Bursting). t.1) (sym told) ∙ last) in
    record { steps = steps; enough = omega (arith, below); told = rests.0; state = rests.1 }

-- ---- the whole

pub whole-told : (size : ℕ) (js : List Job) (b0 b1 : Bursting) (l0 l1 l2 : List BurstLine) → b0 ≡ new_bursting → l0 ≡ []
    → l1 ≡ l0 ++ (groups_told size (length js) js b0).0 → b1 ≡ (groups_told size (length js) js b0).1
    → l2 ≡ l1 ++ (flushes_told (length b1.manager.owed) b1).0 → l2 ≡ (burst_told size js).0
unfolding burst_told
whole-told size js b0 b1 l0 l1 l2 start none submitted state flushed =
    let begin : Told BurstLine Bursting = ([], new_bursting) in
    let groups : Told BurstLine Bursting = groups_told size (length js) js new_bursting in
    let one = after-told begin (groups_told size (length js) js) l0 l1 b0 b1 none start submitted state in
    flushed ∙ ap (λ (ls : List BurstLine). ls ++ (flushes_told (length b1.manager.owed) b1).0) one.0
    ∙ ap (λ (b : Bursting). groups.0 ++ (flushes_told (length b.manager.owed) b).0) one.1

-- ---- the open cells

-- one more cell is written
pub one-more-written : (i : ℕ) (js os rest : List Job) (j : Job) → drop i js ≡ j ∷ rest → i < length os
    → set (take i js ++ drop i os) i j ≡ take (suc i) js ++ drop (suc i) os
one-more-written zero [] os rest j e some = cc
one-more-written zero (k ∷ js) [] rest j e some = absurd (omega (arith, some))
one-more-written zero (k ∷ js) (o ∷ os) rest j e some = cc
one-more-written (suc i) [] os rest j e some = cc
one-more-written (suc i) (k ∷ js) [] rest j e some = absurd (omega (arith, some))
one-more-written (suc i) (k ∷ js) (o ∷ os) rest j e some = ap (λ (ks : List Job). k ∷ ks) (one-more-written i js os rest j e (omega (arith, some)))
