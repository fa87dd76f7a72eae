-- Lists of events, and what holds after each of them.
use Rattle.std.specs.Prelude.{◌≡◌, ℕ, List, [], ◌∷◌, take, if◌then◌else◌, ◌==◌}
use Rattle.std.specs.List.{flat_map}
use Rattle.mbj_core.specs.Parties.{FrontState, new_front}
use Rattle.mbj_core.specs.Lawful.{Lawful}
use Rattle.mbj_core.specs.Events.{Event, post, collect, Answer, carried_out, collected, Step}

module _ {J D : Type 0} (owed : J → D) where
  -- the events lead from f to g, each with its answer
  abbrev pub Run : ℕ → ℕ → FrontState J D → List (Event J D × Answer J D) → FrontState J D → Type 0
  Run submitters workers f [] g = g ≡ f
  Run submitters workers f (e ∷ es) g =
      (h : FrontState J D) × Step owed submitters workers f e.0 e.1 h × Run submitters workers h es g

  -- the result that a post of the submitter s adds to those that it is due
  abbrev pub posted_by : ℕ → Event J D → Answer J D → List D
  posted_by s (post t j) carried_out = if s == t then owed j ∷ [] else []
  posted_by s e a = []

  -- the result that a collect of the submitter s gives
  abbrev pub collected_by : ℕ → Event J D → Answer J D → List D
  collected_by s (collect t) (collected d) = if s == t then d ∷ [] else []
  collected_by s e a = []

  -- each list of events leads from the new front to lawful states only
  abbrev pub EventsKeepTheLaw : Type 0
  EventsKeepTheLaw =
      (submitters workers : ℕ) (events : List (Event J D × Answer J D)) (f : FrontState J D)
      → Run submitters workers new_front events f → Lawful owed submitters workers f

  -- after each list of events from the new front on, the results that a submitter has collected are the first ones
  -- of those of its accepted posts, each once, in the order of the posts
  abbrev pub ResultsComeInOrder : Type 0
  ResultsComeInOrder =
      (submitters workers : ℕ) (events : List (Event J D × Answer J D)) (f : FrontState J D)
      → Run submitters workers new_front events f
      → (s : ℕ) → let v = f.seats s in
      (v.due ≡ flat_map (λ e. posted_by s e.0 e.1) events) × (flat_map (λ e. collected_by s e.0 e.1) events ≡ take v.handed v.due)
