-- What a seat collected, what its jobs are owed that are out, and their ranges, from one call to the next.
use Rattle.std.proofs.Common.{◌≡◌, ◌==◌, ◌≤◌, ℕ, zero, suc, ◌+◌, ◌-◌, ◌<◌, min, Bool, true, false, nat_eq, List, [], ◌∷◌, ◌++◌, length, map, drop, Option, None, Some, slice_get, unwrap_or, option_to_list, Result, Ok, Err, if◌then◌else◌, refl, sym, ap, ap₂, ◌∙◌, subst, arith, append-nil, append_assoc, length-append}
use Rattle.std.proofs.lemmas.List.{map-append, drop-append-le, drop-drop}
use Rattle.std.proofs.lemmas.Option.{slice_get_within}
use Rattle.mbj_types.specs.declared.job.Job.{Job}
use Rattle.mbj_types.specs.declared.done.Done.{Done}
use Rattle.mbj_types.specs.Result.{result_of}
use Rattle.mbj_c.specs.declared.range.CipherRange.{CipherRange}
use Rattle.mbj_c.specs.declared.giving.RawDone.{RawDone}
use Rattle.mbj_c.specs.declared.job.RawJob.{RawJob}
use Rattle.mbj_c.specs.declared.refusal.Refusal.{Refusal}
use Rattle.mbj_c.specs.declared.refusal.Refusal.TheVariants.{Full, Memory, NotSubmitter}
use Rattle.mbj_core.specs.declared.cells.TheConstants.{SUBMITTER_CELLS}
use Rattle.mbj_work.specs.Parties.{after_collect}
use Rattle.mbj_work.proofs.Collecting.{due_still}
use Rattle.mbj_c.specs.Bursts.{GiveBurst, TakeBurst, after_taking, taken_more, with_returned}
use Rattle.mbj_c.specs.Calls.{given_in, given_of}
use Rattle.mbj_c.specs.Codes.{refusal_code}
use Rattle.mbj_c.proofs.SeatRanges.{first_behind, some_is}
use Rattle.mbj_c.specs.Filling.{job_of_raw}
use Rattle.mbj_c.specs.Given.{Given}
use Rattle.mbj_c.specs.Ranges.{given_range}
use Rattle.mbj_c.specs.Seats.{SeatState, AnswersBy, Collects, KeepsJobs, MayAnswer, after_post, collect_refusal, is_submitter, new_seat, posted, posted_in, posted_with}
use Rattle.mbj_c.specs.SeatBursts.{CollectAll, CollectsMore, post_behind}
use Rattle.mbj_c.specs.SeatCalls.{SeatCall, posts, posts_burst, collects, collects_burst, works, CollectsOwn, SeatMakes, SeatMakesAll, SeatsCollectInOrder, SeatsCollectAll, all_given, given_by, job_at, jobs_if, jobs_of_burst, jobs_posted}

-- between the calls: what was given and what is left are what the jobs are given back as, and what is due and the ranges are those of what is left
record Owes (given : List Given) (js : List Job) (s : SeatState) : Type 0 where
  left : List Job
  order : given ++ map given_of left ≡ map given_of js
  due : drop s.part.handed s.part.due ≡ map result_of left
  ranges : s.ranges ≡ map given_range left
  few : s.part.handed ≤ length s.part.due

-- a call that changes nothing
stays : (given : List Given) (js : List Job) (s : SeatState) → Owes given js s → Owes (given ++ []) (js ++ []) s
stays given js s o = record {
  left = o.left;
  order = ap (λ gs. gs ++ map given_of o.left) (append-nil given) ∙ o.order ∙ ap (map given_of) (sym (append-nil js));
  due = o.due;
  ranges = o.ranges;
  few = o.few;
}

-- a call that changes neither what is due nor what is handed out nor the ranges
keeps : (given : List Given) (js : List Job) (s t : SeatState) → t.part.due ≡ s.part.due → t.part.handed ≡ s.part.handed → t.ranges ≡ s.ranges
    → Owes given js s → Owes (given ++ []) (js ++ []) t
keeps given js s t due handed ranges o =
    let p = stays given js s o in record {
      left = p.left;
      order = p.order;
      due = ap₂ drop handed due ∙ p.due;
      ranges = ranges ∙ p.ranges;
      few = subst (λ (x : ℕ × List Done). x.0 ≤ length x.1) (λ i. (sym handed i, sym due i)) p.few;
    }

-- a job is posted
posts_one : (given : List Given) (js : List Job) (s : SeatState) (j : Job) → Owes given js s → Owes (given ++ []) (js ++ j ∷ []) (after_post j s)
posts_one given js s j o = record {
  left = o.left ++ j ∷ [];
  order = ap (λ gs. gs ++ map given_of (o.left ++ j ∷ [])) (append-nil given)
      ∙ ap (λ gs. given ++ gs) (map-append given_of o.left (j ∷ []))
      ∙ sym (append_assoc given (map given_of o.left) (given_of j ∷ []))
      ∙ ap (λ gs. gs ++ given_of j ∷ []) o.order ∙ sym (map-append given_of js (j ∷ []));
  due = drop-append-le s.part.handed s.part.due (result_of j ∷ []) o.few
      ∙ ap (λ ds. ds ++ result_of j ∷ []) o.due ∙ sym (map-append result_of o.left (j ∷ []));
  ranges = ap (λ rs. rs ++ given_range j ∷ []) o.ranges ∙ sym (map-append given_range o.left (j ∷ []));
  few = omega (arith, o.few, length-append s.part.due (result_of j ∷ []));
}

-- a post, whatever it comes to
post_step : (submits full : Bool) (j : Option Job) (given : List Given) (js : List Job) (s : SeatState)
    (r : Result Unit Refusal × SeatState)
    → r ≡ (if submits then (if full then (Err Full, s) else posted_with j s) else (Err NotSubmitter, s))
    → Owes given js s → Owes (given ++ []) (js ++ jobs_if r.0 j) r.1
post_step false full j given js s r is o =
    subst (λ (x : Result Unit Refusal × SeatState). Owes (given ++ []) (js ++ jobs_if x.0 j) x.1) (sym is) (stays given js s o)
post_step true true j given js s r is o =
    subst (λ (x : Result Unit Refusal × SeatState). Owes (given ++ []) (js ++ jobs_if x.0 j) x.1) (sym is) (stays given js s o)
post_step true false None given js s r is o =
    subst (λ (x : Result Unit Refusal × SeatState). Owes (given ++ []) (js ++ jobs_if x.0 None) x.1) (sym is) (stays given js s o)
post_step true false (Some j) given js s r is o =
    subst (λ (x : Result Unit Refusal × SeatState). Owes (given ++ []) (js ++ jobs_if x.0 (Some j)) x.1) (sym is) (posts_one given js s j o)

-- the earliest result is collected, with its range: it is that of the first job that is left
collects_first : (given : List Given) (js : List Job) (s : SeatState) (g : Given) (left : List Job)
    → given ++ map given_of left ≡ map given_of js → drop s.part.handed s.part.due ≡ map result_of left → s.ranges ≡ map given_range left
    → slice_get s.part.due s.part.handed ≡ Some g.done → slice_get s.ranges 0 ≡ Some g.range
    → Owes (given ++ g ∷ []) (js ++ []) (record s { part = after_collect s.part; ranges = drop 1 s.ranges })
collects_first given js s g [] order due ranges done range =
    absurd (let e : Some g.done ≡ None = sym done ∙ sym (first_behind s.part.handed s.part.due) ∙ ap (λ ds. slice_get ds 0) due in grind (arith, e))
collects_first given js s g (j ∷ left) order due ranges done range =
    let is_done : g.done ≡ result_of j =
    some_is g.done (result_of j) (sym done ∙ sym (first_behind s.part.handed s.part.due) ∙ ap (λ ds. slice_get ds 0) due) in
    let is_range : g.range ≡ given_range j = some_is g.range (given_range j) (sym range ∙ ap (λ rs. slice_get rs 0) ranges) in
    let is : g ≡ given_of j = ap₂ (λ d r. record { done = d; range = r }) is_done is_range in
    record {
      left = left;
      order = ap (λ x. (given ++ x ∷ []) ++ map given_of left) is ∙ append_assoc given (given_of j ∷ []) (map given_of left) ∙ order
          ∙ ap (map given_of) (sym (append-nil js));
      due = sym (drop-drop 1 s.part.handed s.part.due) ∙ ap (drop 1) due;
      ranges = ap (drop 1) ranges;
      few = let inside = slice_get_within s.part.due s.part.handed g.done done in omega (arith, inside);
    }

-- a collect that isn't refused
collect_step : (out : Option Given) (given : List Given) (js : List Job) (s t : SeatState) → Collects out s t → Owes given js s
    → Owes (given ++ option_to_list out) (js ++ []) t
collect_step None given js s t (nothing, submitters, ranges) o =
    let same = due_still s.part t.part nothing in keeps given js s t same.1 same.2 ranges o
collect_step (Some g) given js s t (done, range, is) o =
    subst (λ (x : SeatState). Owes (given ++ g ∷ []) (js ++ []) x) (sym is)
    (collects_first given js s g o.left o.order o.due o.ranges done range)

-- a collect, whatever speaks against it
collects_step : (r : Option Refusal) (answer : Result (Option Given) Refusal) (given : List Given) (js : List Job) (s t : SeatState)
    → AnswersBy r answer s t → Owes given js s → Owes (given ++ option_to_list (given_in answer)) (js ++ []) t
collects_step None (Ok out) given js s t is o = collect_step out given js s t is o
collects_step None (Err q) given js s t is o = absurd is
collects_step (Some r) answer given js s t (refused, is) o =
    subst (λ (x : Result (Option Given) Refusal × SeatState). Owes (given ++ option_to_list (given_in x.0)) (js ++ []) x.1)
    (λ i. (sym refused i, sym is i)) (stays given js s o)

-- ---- bursts

-- there is a seat, and it owes this
abbrev OwesIn : List Given → List Job → Option SeatState → Type 0
OwesIn given js None = ⊥
OwesIn given js (Some s) = Owes given js s

-- where no job is posted, and where nothing is given
no_job : (given : List Given) (js : List Job) (m : Option SeatState) → OwesIn given js m → OwesIn given (js ++ []) m
no_job given js m o = subst (λ (l : List Job). OwesIn given l m) (sym (append-nil js)) o

none_given : (given : List Given) (js : List Job) (m : Option SeatState) → OwesIn (given ++ []) js m → OwesIn given js m
none_given given js m o = subst (λ (l : List Given). OwesIn l js m) (append-nil given) o

-- a post of a burst
post_in : (r : RawJob) (given : List Given) (js : List Job) (m : Option SeatState) → OwesIn given js m
    → OwesIn given (js ++ jobs_if (posted r m).0 (job_of_raw r)) (posted r m).1
post_in r given js None o = absurd o
post_in r given js (Some s) o =
    none_given given (js ++ jobs_if (posted_in r s).0 (job_of_raw r)) (Some (posted_in r s).1)
    (post_step (is_submitter s) (nat_eq (length s.part.due) (s.part.handed + SUBMITTER_CELLS)) (job_of_raw r) given js s (posted_in r s) refl o)

taken_step : (a : Result Unit Refusal × Option SeatState) (j : Option Job) (b : TakeBurst (Option SeatState)) (given : List Given) (js : List Job)
    → OwesIn given js b.state → OwesIn given (js ++ jobs_if a.0 j) a.1 → OwesIn given (js ++ jobs_if a.0 j) (taken_more a b).state
taken_step (Ok u, m) j b given js before after = after
taken_step (Err r, m) j b given js before after = no_job given js b.state before

-- a job of a burst that lacked memory or didn't
returned_by : (lacks : Bool) (r : RawJob) (b : TakeBurst (Option SeatState)) (given : List Given) (js : List Job) → OwesIn given js b.state
    → OwesIn given (js ++ (if lacks then [] else jobs_if (posted r b.state).0 (job_of_raw r))) (if lacks then b else taken_more (posted r b.state) b).state
returned_by true r b given js o = no_job given js b.state o
returned_by false r b given js o = taken_step (posted r b.state) (job_of_raw r) b given js o (post_in r given js b.state o)

returned_step : (r : Option RawJob) (code : Option ℕ) (b : TakeBurst (Option SeatState)) (given : List Given) (js : List Job) → OwesIn given js b.state
    → OwesIn given (js ++ job_at r code b.state) (with_returned post_behind r code b).state
returned_step None code b given js o = no_job given js b.state o
returned_step (Some r) None b given js o = no_job given js b.state o
returned_step (Some r) (Some code) b given js o = returned_by (code == refusal_code Memory) r b given js o

-- the posts of a burst
burst_posts : (n : ℕ) (jobs : List RawJob) (codes : List ℕ) (given : List Given) (js : List Job) (m : Option SeatState) → OwesIn given js m
    → OwesIn given (js ++ jobs_of_burst n jobs codes m) (after_taking post_behind n jobs codes m).state
unfolding after_taking
burst_posts zero jobs codes given js m o = no_job given js m o
burst_posts (suc n) jobs codes given js m o =
    let b : TakeBurst (Option SeatState) = after_taking post_behind n jobs codes m in
    let so_far : List Job = jobs_of_burst n jobs codes m in
    subst (λ (l : List Job). OwesIn given l (with_returned post_behind (slice_get jobs n) (slice_get codes n) b).state)
    (append_assoc js so_far (job_at (slice_get jobs n) (slice_get codes n) b.state))
    (returned_step (slice_get jobs n) (slice_get codes n) b given (js ++ so_far) (burst_posts n jobs codes given js m o))

-- a collect of a burst
may_step : (m k : Option SeatState) (out : RawDone) (answer : Result (Option Given) Refusal) (given : List Given) (js : List Job)
    → MayAnswer m out answer k → OwesIn given js m → OwesIn (given ++ option_to_list (given_in answer)) js k
may_step None k out answer given js may o = absurd o
may_step (Some s) None out answer given js may o = absurd may
may_step (Some s) (Some t) out answer given js may o =
    subst (λ (l : List Job). Owes (given ++ option_to_list (given_in answer)) l t) (append-nil js)
    (collects_step (collect_refusal s out) answer given js s t may o)

more_step : (out : Option RawDone) (a b : GiveBurst (Option SeatState)) (given : List Given) (js : List Job) → CollectsMore out a b
    → OwesIn (given ++ a.given) js a.state → OwesIn (given ++ b.given) js b.state
more_step None a b given js more o = absurd more
more_step (Some out) a b given js (answer, (may, is)) o =
    subst (λ (l : List Given). OwesIn l js b.state)
    (append_assoc given a.given (option_to_list (given_in answer)) ∙ ap (λ (x : GiveBurst (Option SeatState)). given ++ x.given) (sym is))
    (may_step a.state b.state out answer (given ++ a.given) js may o)

-- the collects of a burst
burst_collects : (n : ℕ) (outs : List RawDone) (given : List Given) (js : List Job) (m : Option SeatState) (b : GiveBurst (Option SeatState))
    → CollectAll n outs m b → OwesIn given js m → OwesIn (given ++ b.given) js b.state
burst_collects zero outs given js m b is o =
    subst (λ (x : GiveBurst (Option SeatState)). OwesIn (given ++ x.given) js x.state) (sym is)
    (subst (λ (l : List Given). OwesIn l js m) (sym (append-nil given)) o)
burst_collects (suc n) outs given js m b (a, (before, more)) o =
    more_step (slice_get outs (length a.given)) a b given js more (burst_collects n outs given js m a before o)

-- ---- lists of calls

step : (c : SeatCall) (given : List Given) (js : List Job) (s t : SeatState) → SeatMakes c s t → Owes given js s
    → Owes (given ++ given_by c) (js ++ jobs_posted c s) t
step (posts r) given js s t is o =
    subst (λ (x : SeatState). Owes (given ++ []) (js ++ jobs_if (posted_in r s).0 (job_of_raw r)) x) (sym is)
    (post_step (is_submitter s) (nat_eq (length s.part.due) (s.part.handed + SUBMITTER_CELLS)) (job_of_raw r) given js s (posted_in r s) refl o)
step (posts_burst jobs codes) given js s t is o =
    let n : ℕ = min (length jobs) (length codes) in
    subst (λ (l : List Given). Owes l (js ++ jobs_of_burst n jobs codes (Some s)) t) (sym (append-nil given))
    (subst (λ (m : Option SeatState). OwesIn given (js ++ jobs_of_burst n jobs codes (Some s)) m) (sym is)
    (burst_posts n jobs codes given js (Some s) o))
step (collects out answer) given js s t is o = collects_step (collect_refusal s out) answer given js s t is o
step (collects_burst outs out) given js s t (b, (made, (are, is))) o =
    subst (λ (x : List Given × Option SeatState). OwesIn (given ++ x.0) (js ++ []) x.1) (λ i. (sym are i, sym is i))
    (no_job (given ++ b.given) js b.state (burst_collects (length outs) outs given js (Some s) b made o))
step works given js s t is o = keeps given js s t is.part.2 is.part.3 is.ranges o

all_steps : (cs : List SeatCall) (given : List Given) (js more : List Job) (s t : SeatState) → SeatMakesAll cs more s t → Owes given js s
    → Owes (given ++ all_given cs) (js ++ more) t
all_steps [] given js more s t (none, is) o =
    subst (λ (x : List Job × SeatState). Owes (given ++ []) (js ++ x.0) x.1) (λ i. (sym none i, sym is i)) (stays given js s o)
all_steps (c ∷ cs) given js more s t (u, (later, (are, (one, rest)))) o =
    subst (λ (x : List Given × List Job). Owes x.0 x.1 t)
    (λ i. (append_assoc given (given_by c) (all_given cs) i, (append_assoc js (jobs_posted c s) later ∙ ap (λ l. js ++ l) (sym are)) i))
    (all_steps cs (given ++ given_by c) (js ++ jobs_posted c s) later u t rest (step c given js s u one o))

new_owes : (submitters p : ℕ) → Owes [] [] (new_seat submitters p)
new_owes submitters p = record { left = []; order = refl; due = refl; ranges = refl; few = omega arith }

pub seats-collect-in-order : SeatsCollectInOrder
seats-collect-in-order submitters p calls js t made =
    let o = all_steps calls [] [] js (new_seat submitters p) t made (new_owes submitters p) in
    record { left = o.left; order = o.order; due = o.due; ranges = o.ranges }

nil_of_map : (js : List Job) → [] ≡ map result_of js → js ≡ []
nil_of_map [] e = refl
nil_of_map (j ∷ js) e = absurd (let z = ap length e in omega (arith, z))

drop_whole : (n : ℕ) (ds : List Done) → length ds ≡ n → drop n ds ≡ []
drop_whole zero [] e = refl
drop_whole zero (d ∷ ds) e = absurd (omega (arith, e))
drop_whole (suc n) [] e = refl
drop_whole (suc n) (d ∷ ds) e = drop_whole n ds (omega (arith, e))

pub seats-collect-all : SeatsCollectAll
seats-collect-all submitters p calls js t made none =
    let o = seats-collect-in-order submitters p calls js t made in
    let empty : o.left ≡ [] = nil_of_map o.left (sym (drop_whole t.part.handed t.part.due none) ∙ o.due) in
    sym (append-nil (all_given calls)) ∙ ap (λ l. all_given calls ++ map given_of l) (sym empty) ∙ o.order
