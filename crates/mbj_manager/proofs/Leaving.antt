-- Who leaves a lane queue that runs, and who stays.
use Rattle.std.proofs.Common.{◌≡◌, ◌≢◌, ℕ, ◌+◌, ◌-◌, ◌==◌, ◌<◌, ◌≤◌, min, List, [], ◌∷◌, map, length, not, Bool, true, ◌⊎◌, inl, inr, refl, ap, ◌∙◌, arith}
use Rattle.std.specs.Prelude.{All, filter}
use Rattle.std.proofs.lemmas.Bool.{cases_eq, eq-eqb, eqb-false, not-true, cases_Bool}
use Rattle.std.proofs.lemmas.List.{length-map}
use Rattle.std.proofs.lemmas.List.Filters.{length-filter_both}
use Rattle.std.proofs.lemmas.List.Elements.{All-weaker, filter_passes}
use Rattle.mbj_lane.specs.Rounds.{least_from}
use Rattle.mbj_manager.specs.Machine.Queues.{WaitingJob, least, rest_of, shortened, leavers, stayers}

abbrev pub lowered : ℕ → WaitingJob → WaitingJob
lowered m w = record w { rest = w.rest - m }

abbrev pub is_at_end : WaitingJob → Bool
is_at_end w = w.rest == 0

-- each of the lane queue leaves or stays
pub leave-or-stay : (ws : List WaitingJob) → length (leavers (shortened ws)) + length (stayers (shortened ws)) ≡ length ws
leave-or-stay ws =
    ap (λ n. n + length (stayers (shortened ws))) (length-map (filter is_at_end (shortened ws)) (λ w. w.number))
    ∙ length-filter_both is_at_end (λ w. not (is_at_end w)) (λ w. refl) (shortened ws) ∙ length-map ws (lowered (least ws))

-- who stays has rounds left
pub stayers-rest : (ws : List WaitingJob) → All (λ w. 1 ≤ w.rest) (stayers ws)
stayers-rest ws = All-weaker (λ w. not (is_at_end w) ≡ true) (λ w. 1 ≤ w.rest)
    (λ w t. let ne : w.rest ≢ 0 = eqb-false w.rest 0 (not-true (is_at_end w) t) in omega arith) (stayers ws)
    (filter_passes (λ w. not (is_at_end w)) ws)

-- if one of a list leaves, one of a longer list leaves
leaves-more : (w : WaitingJob) (ws : List WaitingJob) → 0 < length (leavers ws) → 0 < length (leavers (w ∷ ws))
leaves-more w ws h = elim (cases_Bool (is_at_end w)) [ inl e ↦ rw e (omega arith) | inr e ↦ rw e h ]

-- the first of a list leaves if no round is left of it
leaves-first : (w : WaitingJob) (ws : List WaitingJob) → w.rest ≡ 0 → 0 < length (leavers (w ∷ ws))
leaves-first w ws e = let t : is_at_end w ≡ true = eq-eqb w.rest 0 e in rw t (omega arith)

-- the least is n itself or the rest of one of the lane queue, who leaves
least-leaves : (m n : ℕ) (ws : List WaitingJob) → m ≡ least_from rest_of n ws → (m ≡ n) ⊎ (0 < length (leavers (map (lowered m) ws)))
least-leaves m n [] e = inl e
least-leaves m n (w ∷ ws) e = elim (least-leaves m (min n w.rest) ws e) [
  | inl i ↦ (elim (cases_eq m n) [
    | inl h ↦ inl h
    | inr h ↦ inr (leaves-first (lowered m w) (map (lowered m) ws) (omega arith))
  ])
  | inr l ↦ inr (leaves-more (lowered m w) (map (lowered m) ws) l)
]

-- of a lane queue in which somebody waits somebody leaves
pub some-leave : (ws : List WaitingJob) → 0 < length ws → 0 < length (leavers (shortened ws))
some-leave [] h = absurd (omega arith)
some-leave (w ∷ ws) h =
    let m = least_from rest_of w.rest ws in
    elim (least-leaves m w.rest ws refl) [
      | inl e ↦ leaves-first (lowered m w) (map (lowered m) ws) (omega arith)
      | inr l ↦ leaves-more (lowered m w) (map (lowered m) ws) l
    ]
