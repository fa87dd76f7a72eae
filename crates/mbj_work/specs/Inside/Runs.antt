-- What the submitters and workers of a run begin and end with.
use Rattle.std.specs.Prelude.{◌≡◌, ℕ, ◌+◌, ◌<◌, ◌≤◌, false, List, [], ◌∷◌, ◌++◌, map, drop, Some, IfSome, vec_len, vec_capacity}
use Rattle.std.specs.declared.vec.Vec.{Vec}
use Rattle.std.specs.declared.alloc.Global.{Global}
use Rattle.mbj_types.specs.declared.job.Job.{Job}
use Rattle.mbj_types.specs.declared.done.Done.{Done}
use Rattle.mbj_types.specs.Result.{result_of}
use Rattle.mbj_core.specs.declared.party.View.{View}
use Rattle.mbj_core.specs.Parties.{new_party}
use Rattle.mbj_front.specs.declared.seat.PartySeat.{PartySeat}
use Rattle.mbj_front.specs.declared.front.SharedFront.{SharedFront}
use Rattle.mbj_front.specs.declared.standard.Standard.{Standard}
use Rattle.mbj_core.specs.declared.party.Phase.TheVariants.{Rest}
use Rattle.mbj_front.specs.Seats.{view_of, submitters_of, IsOf}
use Rattle.mbj_work.specs.declared.worker.Worker.{Worker}
use Rattle.mbj_work.specs.declared.submitter.Submitter.{Submitter}

-- what was given, and then what is due and not handed out
abbrev pub with_due : List Done → View Done → List Done
with_due given v = given ++ drop v.handed v.due

module _ (front : SharedFront Job Done Standard) where
  -- the seat of a party that has done nothing, and holds no job of others
  pub record IsFreeSeat (seat : PartySeat Job Done) : Type 0 where
    pub of_front : IsOf front seat
    pub rest : (view_of seat).phase ≡ Rest
    pub hand : (view_of seat).hand ≡ []

  -- a submitter that has posted nothing, with its jobs and room for their results
  unfoldable pub HasJobs : Submitter → Type 0
  HasJobs s =
      ((seat : PartySeat Job Done) × (s.seat ≡ Some seat) × IsFreeSeat seat × ((view_of seat).number < submitters_of front) × ((view_of seat).due ≡ []))
      × (s.results.items ≡ [])
      × ((jobs : Vec Job Global) × (s.jobs ≡ Some jobs) × (vec_len jobs ≤ vec_capacity s.results))

  -- a worker whose party may serve the front
  unfoldable pub MayServe : Worker → Type 0
  MayServe worker = IsFreeSeat worker.seat

  -- the seats of parties that have done nothing, in the order of their numbers, from n on
  abbrev pub AreSeatsFrom : ℕ → List (PartySeat Job Done) → Type 0
  AreSeatsFrom n [] = Unit {0}
  AreSeatsFrom n (seat ∷ seats) = (IsOf front seat × (view_of seat ≡ new_party n)) × AreSeatsFrom (n + 1) seats

-- the results are those of the submitter's jobs, in order, if there was memory for its party
abbrev pub HasResults : Submitter → Submitter → Type 0
HasResults old new = IfSome old.jobs (λ jobs. new.is_refused ≡ false → new.results.items ≡ map result_of jobs.items)

-- there was memory for its party
abbrev pub IsDone : Submitter → Type 0
IsDone s = s.is_refused ≡ false
