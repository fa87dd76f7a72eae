-- What a claim and a settle make of a party.
use Rattle.std.specs.Prelude.{◌≡◌, ℕ, zero, suc, List, [], ◌∷◌, Option, Some, MatchOption}
use Rattle.mbj_types.specs.declared.job.Job.{Job}
use Rattle.mbj_types.specs.declared.done.Done.{Done}
use Rattle.mbj_types.specs.Result.{result_of}
use Rattle.mbj_core.specs.declared.party.View.{View}
use Rattle.mbj_front.specs.declared.front.SharedFront.{SharedFront}
use Rattle.mbj_front.specs.declared.standard.Standard.{Standard}
use Rattle.mbj_front.specs.Moves.{Move, claiming, finishing, Led}
use Rattle.mbj_front.specs.Seats.{submitters_of, workers_of}
use Rattle.mbj_front.specs.Views.{after_claim, after_finish}
use Rattle.mbj_keys.specs.Sessions.{Known}
use Rattle.mbj_manager.specs.State.{ManagerState, after_submit_in, with_open, after_flush}
use Rattle.mbj_work.specs.declared.claimed.Claimed.{Claimed}
use Rattle.mbj_work.specs.declared.claimed.Claimed.TheVariants.{Yes, Not}

-- P if the cell was claimed, and Q of the word if it wasn't
abbrev pub MatchClaimed : Claimed → Type 0 → (ℕ → Type 0) → Type 0
MatchClaimed Yes P Q = P
MatchClaimed (Not word) P Q = Q word

-- Q of the word if the cell wasn't claimed
abbrev pub IfNot : Claimed → (ℕ → Type 0) → Type 0
IfNot Yes Q = Unit {0}
IfNot (Not word) Q = Q word

module _ (front : SharedFront Job Done Standard) where
  -- one step on the front led from v to w
  abbrev pub StepLed : View Done → Move Job Done → View Done → Type 0
  StepLed v move w = Led result_of (submitters_of front) (workers_of front) v move w

  -- the first pair of the hand, whose result is d, left it by a finish of d
  pub record FinishesFirst (d : Done) (v w : View Done) : Type 0 where
    pub cell : ℕ
    pub more : List (ℕ × Done)
    pub first : v.hand ≡ (cell, d) ∷ more
    pub part : w ≡ after_finish v more
    pub step : StepLed v (finishing cell d) w

  -- a result that was given back is that of the first pair of the hand, which it leaves
  abbrev pub FinishesGiven : Option Done → View Done → View Done → Type 0
  FinishesGiven given v w = MatchOption given (w ≡ v) (λ d. FinishesFirst d v w)

  -- The job of the cell went to the end of the hand, and was submitted by what the notes know. If that gave a result back, it
  -- is the first pair's, which left the hand.
  pub record ClaimsJob (cell : ℕ) (notes : List Known) (v : View Done) (manager : ManagerState) (w : View Done) (manager' : ManagerState) : Type 0 where
    pub job : Job
    pub claim : StepLed v (claiming cell job) (after_claim v cell (result_of job))
    pub manager_is : manager' ≡ (after_submit_in notes (with_open manager job)).1
    pub part : FinishesGiven (after_submit_in notes (with_open manager job)).0 (after_claim v cell (result_of job)) w

  -- one result was flushed, and it is the first pair's, which left the hand
  pub record Settles (v : View Done) (manager : ManagerState) (w : View Done) (manager' : ManagerState) : Type 0 where
    pub done : Done
    pub given : (after_flush manager).0 ≡ Some done
    pub manager_is : manager' ≡ (after_flush manager).1
    pub part : FinishesFirst done v w

  -- these results are those of the first pairs of the hand, which left it by a finish each, in turn
  abbrev pub FinishesEach : List Done → View Done → View Done → Type 0
  FinishesEach [] v w = w ≡ v
  FinishesEach (d ∷ ds) v w = (u : View Done) × FinishesFirst d v u × FinishesEach ds u w

  -- this many settles, one after another
  abbrev pub SettlesInTurn : ℕ → View Done → ManagerState → View Done → ManagerState → Type 0
  SettlesInTurn zero v manager w manager' = (w ≡ v) × (manager' ≡ manager)
  SettlesInTurn (suc n) v manager w manager' =
      (u : View Done) × (between : ManagerState) × Settles v manager u between × SettlesInTurn n u between w manager'
