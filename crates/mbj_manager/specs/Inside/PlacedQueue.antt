-- The lane queue of one kind, with the counts of its full runs. An entry is seen as its rest and as its end, so that there is one type
-- for the lane queues of all kinds.
use Rattle.std.specs.Prelude.{◌≡◌, ℕ, ◌-◌, ◌≤◌, List, [], ◌∷◌, ◌++◌, map, Some, None}
use Rattle.mbj_lane.specs.Rounds.{end_of, taken}
use Rattle.mbj_stage.specs.Handing.{End}

-- an entry seen without its kind: how many rounds are left, and what it brings back at its end
pub record EntryView : Type 0 where
  pub rounds : ℕ
  pub brings : End

abbrev pub rounds_in : EntryView → ℕ
rounds_in a = a.rounds

abbrev pub brings_in : EntryView → End
brings_in a = a.brings

abbrev pub entry_view : {E : Type 0} → (E → E) → (E → ℕ) → (E → End) → E → EntryView
entry_view round rest brings e = record { rounds = rest e; brings = brings (end_of round rest e) }

-- an entry with no round left
abbrev pub ended : End → EntryView
ended e = record { rounds = 0; brings = e }

-- a job, by its place or its number, and its entry
abbrev pub PlacedEntry : Type 0
PlacedEntry = ℕ × EntryView

abbrev pub pair_rest : {E : Type 0} → (E → ℕ) → ℕ × E → ℕ
pair_rest rest p = rest p.1

abbrev pub HasRest : PlacedEntry → Type 0
HasRest w = 1 ≤ w.1.rounds

abbrev pub advanced_entry : ℕ → PlacedEntry → PlacedEntry
advanced_entry m w = (w.0, record { rounds = w.1.rounds - m; brings = w.1.brings })

-- the entries, each with its job's place
abbrev pub queued_of : {E : Type 0} → (E → E) → (E → ℕ) → (E → End) → List ℕ → List E → List PlacedEntry
queued_of round rest brings [] es = []
queued_of round rest brings (p ∷ ps) [] = []
queued_of round rest brings (p ∷ ps) (e ∷ es) = (p, entry_view round rest brings e) ∷ queued_of round rest brings ps es

-- the lane queue of a kind, and the counts of its full runs
pub record PlacedQueue : Type 0 where
  pub queued : List PlacedEntry
  pub rounds : ℕ
  pub blocks : ℕ

abbrev pub placed_queue : List PlacedEntry → ℕ → ℕ → PlacedQueue
placed_queue ws rounds blocks = record { queued = ws; rounds = rounds; blocks = blocks }

abbrev pub no_queue : PlacedQueue
no_queue = placed_queue [] 0 0

-- a lane queue by places, with the numbers that f makes of them
abbrev pub numbered : (ℕ → ℕ) → List PlacedEntry → List PlacedEntry
numbered f ws = map (λ w. (f w.0, w.1)) ws

abbrev pub numbered_queue : (ℕ → ℕ) → PlacedQueue → PlacedQueue
numbered_queue f l = placed_queue (numbered f l.queued) l.rounds l.blocks

-- the job at a place joined
abbrev pub with_queued : ℕ → EntryView → PlacedQueue → PlacedQueue
with_queued place a l = record l { queued = l.queued ++ (place, a) ∷ [] }

-- all were advanced by m rounds
abbrev pub advanced_queue : ℕ → PlacedQueue → PlacedQueue
advanced_queue m l = record l { queued = map (advanced_entry m) l.queued }

-- nobody is finished
pub record Waits (old new : PlacedQueue) : Type 0 where
  pub none : taken (pair_rest rounds_in) old.queued ≡ None
  pub same : new ≡ old

-- the job at a place left, which is the first that is finished
pub record Takes (place : ℕ) (e : End) (old new : PlacedQueue) : Type 0 where
  pub first : taken (pair_rest rounds_in) old.queued ≡ Some ((place, ended e), new.queued)
  pub same : new ≡ record old { queued = new.queued }
