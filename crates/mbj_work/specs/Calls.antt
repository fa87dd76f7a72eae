-- The calls of a party one after another, each with what came of it, and the law of what is collected.
use Rattle.std.specs.Prelude.{◌≡◌, ℕ, List, [], ◌∷◌, ◌++◌, length, map, drop, Some, slice_get}
use Rattle.mbj_types.specs.declared.job.Job.{Job}
use Rattle.mbj_types.specs.declared.done.Done.{Done}
use Rattle.mbj_types.specs.Result.{result_of}
use Rattle.mbj_core.specs.declared.party.View.{View}
use Rattle.mbj_core.specs.Parties.{new_party}
use Rattle.mbj_front.specs.Views.{after_publish}
use Rattle.mbj_work.specs.Parties.{after_collect, CollectsNothing, KeepsDue}

-- a call, by itself or with a gate, and what came of it
pub data PartyCall : Type 0 where
  -- a post took the job, or gave it back
  posted : Job → PartyCall
  post_full : PartyCall
  -- a collect gave a result, or none
  collected : Done → PartyCall
  not_yet : PartyCall
  -- a claim, a settle, a burst of settles, a hunt, a turn or a serve, whatever came of it
  worked : PartyCall
  -- a drain gave these results
  drained : List Done → PartyCall

-- a drain hands out all that is due, in order
pub record Drains (ds : List Done) (v w : View Done) : Type 0 where
  pub due : w.due ≡ v.due
  pub handed : w.handed ≡ length v.due
  pub results : ds ≡ drop v.handed v.due

-- what a call makes of the party's part of the front
abbrev pub Makes : PartyCall → View Done → View Done → Type 0
Makes (posted j) v w = w ≡ after_publish v (result_of j)
Makes post_full v w = w ≡ v
Makes (collected d) v w = (slice_get v.due v.handed ≡ Some d) × (w ≡ after_collect v)
Makes not_yet v w = CollectsNothing v w
Makes worked v w = KeepsDue v w
Makes (drained ds) v w = Drains ds v w

-- what the calls make of it, one after another
abbrev pub MakeAll : List PartyCall → View Done → View Done → Type 0
MakeAll [] v w = w ≡ v
MakeAll (c ∷ cs) v w = (u : View Done) × (Makes c v u × MakeAll cs u w)

-- the jobs that a call posts, and the results that it collects
abbrev pub posted_by : PartyCall → List Job
posted_by (posted j) = j ∷ []
posted_by post_full = []
posted_by (collected d) = []
posted_by not_yet = []
posted_by worked = []
posted_by (drained ds) = []

abbrev pub collected_by : PartyCall → List Done
collected_by (posted j) = []
collected_by post_full = []
collected_by (collected d) = d ∷ []
collected_by not_yet = []
collected_by worked = []
collected_by (drained ds) = ds

abbrev pub all_posted : List PartyCall → List Job
all_posted [] = []
all_posted (c ∷ cs) = posted_by c ++ all_posted cs

abbrev pub all_collected : List PartyCall → List Done
all_collected [] = []
all_collected (c ∷ cs) = collected_by c ++ all_collected cs

-- What a party collected, and then what is still due, are the results of the jobs that it posted, in the order of its posts and
-- each once. So what it collected is a prefix of them.
abbrev pub CollectsInOrder : Type 0
CollectsInOrder =
    (calls : List PartyCall) (number : ℕ) (v : View Done) → MakeAll calls (new_party number) v
    → all_collected calls ++ drop v.handed v.due ≡ map result_of (all_posted calls)

-- and after a drain it is all of them
abbrev pub DrainsCollectAll : Type 0
DrainsCollectAll =
    (calls : List PartyCall) (number : ℕ) (ds : List Done) (u v : View Done) → MakeAll calls (new_party number) u → Makes (drained ds) u v
    → all_collected calls ++ ds ≡ map result_of (all_posted calls)
