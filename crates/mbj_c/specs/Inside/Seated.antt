-- What a seat keeps between C's calls.
use Rattle.std.specs.Prelude.{◌≡◌, ℕ, ◌<◌, nat_lt, Bool, List, [], drop, map}
use Rattle.mbj_types.specs.declared.job.Job.{Job}
use Rattle.mbj_types.specs.declared.done.Done.{Done}
use Rattle.mbj_ring.specs.Ring.{RingState}
use Rattle.mbj_front.specs.declared.front.SharedFront.{SharedFront}
use Rattle.mbj_front.specs.declared.standard.Standard.{Standard}
use Rattle.mbj_front.specs.Seats.{cells_of, submitters_of}
use Rattle.mbj_work.specs.declared.party.Party.{Party}
use Rattle.mbj_work.specs.Parties.{part_of, IsPartyOf}
use Rattle.mbj_c.specs.declared.range.CipherRange.{CipherRange}
use Rattle.mbj_types.specs.Result.{result_of}
use Rattle.mbj_c.specs.Ranges.{given_range}

-- the results that are due and not handed out, and the ranges, are those of the same jobs, in the same order
pub record AreOut (due : List Done) (ranges : List CipherRange) : Type 0 where
  pub jobs : List Job
  pub results : due ≡ map result_of jobs
  pub given : ranges ≡ map given_range jobs

-- a party of the front, the ranges of its jobs that are out, and where its next turn begins
pub record IsSeated (front : SharedFront Job Done Standard) (party : Party) (is_submitter : Bool) (ranges : RingState CipherRange) (from : ℕ) : Type 0 where
  pub of_front : IsPartyOf front party
  pub submitter : is_submitter ≡ nat_lt (part_of party).number (submitters_of front)
  pub jobs : AreOut (drop (part_of party).handed (part_of party).due) ranges.values
  pub closed : ranges.opened ≡ []
  pub from_cell : from < cells_of front
