-- The calls of C one after another, and the law of what they give back.
use Rattle.std.specs.Prelude.{◌≡◌, ℕ, List, [], ◌∷◌, ◌++◌, map, Option, None, Some, option_to_list, Result, Ok, Err}
use Rattle.mbj_keys.specs.Sessions.{Known}
use Rattle.mbj_types.specs.declared.job.Job.{Job}
use Rattle.mbj_types.specs.Result.{result_of}
use Rattle.mbj_c.specs.declared.giving.Call.{Call}
use Rattle.mbj_c.specs.declared.giving.Call.TheVariants as call
use Rattle.mbj_c.specs.Given.{Given}
use Rattle.mbj_c.specs.declared.giving.RawDone.{RawDone}
use Rattle.mbj_c.specs.declared.job.RawJob.{RawJob}
use Rattle.mbj_c.specs.declared.refusal.Refusal.{Refusal}
use Rattle.mbj_c.specs.Filling.{filled_at}
use Rattle.mbj_c.specs.Giving.{called_in, job_entered, refusal_in}
use Rattle.mbj_c.specs.KeySets.{using}
use Rattle.mbj_c.specs.Ranges.{given_range}
use Rattle.mbj_c.specs.State.{RangedState, new_ranged}
use Rattle.mbj_c.specs.Submitting.{submitted_in}

-- C fills an open cell, for whose job there is memory, or makes a call with room for a result, or does both by one call, or has the manager
-- use a set of key sessions. The single call fills the first open cell; a burst fills one behind another
pub data CallOfC : Type 0 where
  fills : ℕ → RawJob → CallOfC
  gives : Call → RawDone → CallOfC
  submits : RawJob → RawDone → CallOfC
  uses : List Known → CallOfC

abbrev pub given_in : Result (Option Given) Refusal → Option Given
given_in (Ok g) = g
given_in (Err r) = None

-- what a call gives back, and the state after it
abbrev pub called_of : CallOfC → RangedState → Option Given × RangedState
called_of (fills i r) k = (None, (filled_at i r k).1)
called_of (gives c out) k = (given_in (called_in c k out).0, (called_in c k out).1)
called_of (submits r out) k = (given_in (submitted_in r k out).0, (submitted_in r k out).1)
called_of (uses notes) k = (None, using notes k)

-- a refused call submits none
abbrev pub jobs_by : Option Refusal → Call → RangedState → List Job
jobs_by None c k = job_entered c k.manager.opened
jobs_by (Some r) c k = []

-- and so does one whose job isn't filled
abbrev pub jobs_filled : Result Unit Refusal → RangedState → RawDone → List Job
jobs_filled (Ok u) k out = jobs_by (refusal_in call.Submit k out) call.Submit k
jobs_filled (Err r) k out = []

abbrev pub jobs_in : CallOfC → RangedState → List Job
jobs_in (fills i r) k = []
jobs_in (gives c out) k = jobs_by (refusal_in c k out) c k
jobs_in (submits r out) k = jobs_filled (filled_at 0 r k).0 (filled_at 0 r k).1 out
jobs_in (uses notes) k = []

-- what the calls give back, in order
unfoldable pub given_back : List CallOfC → RangedState → List Given
given_back [] k = []
given_back (c ∷ cs) k = option_to_list (called_of c k).0 ++ given_back cs (called_of c k).1

-- the jobs that the calls submit, each as it is when it is submitted, in order
unfoldable pub jobs_submitted : List CallOfC → RangedState → List Job
jobs_submitted [] k = []
jobs_submitted (c ∷ cs) k = jobs_in c k ++ jobs_submitted cs (called_of c k).1

unfoldable pub after_calls : List CallOfC → RangedState → RangedState
after_calls [] k = k
after_calls (c ∷ cs) k = after_calls cs (called_of c k).1

-- what a job is given back as: its result, with its range
abbrev pub given_of : Job → Given
given_of j = record { done = result_of j; range = given_range j }

-- what is given back, and then what the jobs are owed that are left, is what was submitted is given back as, each once and in order
pub record GivesInOrder (cs : List CallOfC) : Type 0 where
  pub left : List Job
  pub order : given_back cs new_ranged ++ map given_of left ≡ map given_of (jobs_submitted cs new_ranged)
  pub results : (after_calls cs new_ranged).manager.owed ≡ map result_of left
  pub ranges : (after_calls cs new_ranged).ranges ≡ map given_range left
