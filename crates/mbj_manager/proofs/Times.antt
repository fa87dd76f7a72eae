-- How often a job stands in a lane queue.
use Rattle.std.proofs.Common.{◌≡◌, ◌≢◌, ℕ, ◌+◌, ◌==◌, List, [], ◌∷◌, ◌++◌, map, cond, not, refl, ap, sym, ◌∙◌, arith}
use Rattle.std.specs.Prelude.{sum_by, filter}
use Rattle.std.proofs.lemmas.Bool.{eq-eqb, ne_eqb, cond-true, cond-false}
use Rattle.std.proofs.lemmas.List.Sums.{sum_by-cons, sum_by_push}
use Rattle.std.proofs.lemmas.List.Filters.{sum_by-filter_both}
use Rattle.mbj_manager.specs.Machine.Queues.{WaitingJob, least, shortened, leavers, stayers}
use Rattle.mbj_manager.specs.Machine.Between.{times_in}
use Rattle.mbj_manager.specs.Inside.Standing.{times}
use Rattle.mbj_manager.proofs.Lanes.{waits}
use Rattle.mbj_manager.proofs.Leaving.{lowered, is_at_end}

-- one more of n in front
pub times-here : (n : ℕ) (ns : List ℕ) → times n (n ∷ ns) ≡ 1 + times n ns
times-here n ns = sum_by-cons (λ k. cond (k == n) 1 0) n ns ∙ ap (λ t. t + times n ns) (cond-true (n == n) 1 0 (eq-eqb n n refl))

-- another number in front
pub times-there : (n m : ℕ) (ns : List ℕ) → m ≢ n → times n (m ∷ ns) ≡ times n ns
times-there n m ns ne =
    let same : times n (m ∷ ns) ≡ 0 + times n ns
    = sum_by-cons (λ k. cond (k == n) 1 0) m ns ∙ ap (λ t. t + times n ns) (cond-false (m == n) 1 0 (ne_eqb m n ne)) in
    omega arith

-- ---- the lane queues of those who wait

-- a sum over a list that is mapped
sum_by-map : {A B : Type 0} (w : B → ℕ) (f : A → B) (xs : List A) → sum_by w (map f xs) ≡ sum_by (λ x. w (f x)) xs
sum_by-map w f [] = refl
sum_by-map w f (x ∷ xs) = sum_by-cons w (f x) (map f xs) ∙ ap (λ n. w (f x) + n) (sum_by-map w f xs) ∙ sym (sum_by-cons (λ x. w (f x)) x xs)

-- a run takes nobody off the lane queue but those who leave
pub times-leave : (n : ℕ) (ws : List WaitingJob) → times n (leavers ws) + times_in n (stayers ws) ≡ times_in n ws
times-leave n ws =
    ap (λ t. t + times_in n (stayers ws)) (sum_by-map (λ k. cond (k == n) 1 0) (λ w. w.number) (filter is_at_end ws))
    ∙ sum_by-filter_both is_at_end (λ w. not (is_at_end w)) (λ w. refl) (λ w. cond (w.number == n) 1 0) ws

-- a run lowers the rests alone
pub times-shortened : (n : ℕ) (ws : List WaitingJob) → times_in n (shortened ws) ≡ times_in n ws
times-shortened n ws = sum_by-map (λ w. cond (w.number == n) 1 0) (lowered (least ws)) ws

-- a job that joins a lane queue stands there once more
pub times-joined : (n rest : ℕ) (ws : List WaitingJob) → times_in n (ws ++ waits n rest ∷ []) ≡ times_in n ws + 1
times-joined n rest ws = sum_by_push (λ w. cond (w.number == n) 1 0) ws (waits n rest)
    ∙ ap (λ t. times_in n ws + t) (cond-true (n == n) 1 0 (eq-eqb n n refl))

-- another job stands there as often as before
pub times-joined-other : (m n rest : ℕ) (ws : List WaitingJob) → n ≢ m → times_in m (ws ++ waits n rest ∷ []) ≡ times_in m ws
times-joined-other m n rest ws ne =
    let same : times_in m (ws ++ waits n rest ∷ []) ≡ times_in m ws + 0
    = sum_by_push (λ w. cond (w.number == m) 1 0) ws (waits n rest) ∙ ap (λ t. times_in m ws + t) (cond-false (n == m) 1 0 (ne_eqb n m ne)) in
    omega arith
