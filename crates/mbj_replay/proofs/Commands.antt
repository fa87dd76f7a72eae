-- What a command keeps of a replay: its front, its workers' hands and its stock of jobs.
use Rattle.std.proofs.Common.{◌≡◌, ◌≢◌, ◌∙◌, ◌+◌, ◌*◌, ◌%◌, ◌<◌, ◌≤◌, ◌++◌, [], ◌∷◌, ap, sym, subst, refl, ℕ, zero, suc, List, Option, None, Some, map, length, set, Vec, Global, option_map, option_to_list, IfSome, arith, length-set}
use Rattle.std.specs.Prelude.{slice_get}
use Rattle.std.proofs.lemmas.List.{map-append}
use Rattle.std.proofs.lemmas.Option.{get_or_from_slice_get, none-some, same_Some, slice_get_within}
use Rattle.std.proofs.Math.Nat.{add-mod_right}
use mathlib.Core.Logic.{dite}
use native.Mathlib.Decide.{ℕ_discrete}
use Rattle.mbj_types.specs.Result.{result_of}
use Rattle.mbj_types.specs.declared.job.Job.{Job}
use Rattle.mbj_types.specs.declared.done.Done.{Done}
use Rattle.mbj_core.specs.Cells.{ready, free, hand_of, cell_of}
use Rattle.mbj_core.specs.Parties.{FrontState}
use Rattle.mbj_core.specs.Lawful.{Lawful}
use Rattle.mbj_core.specs.Events.{carried_out, collect, collected, finish, post}
use Rattle.mbj_core.specs.CoreStates.{CoreState, HasHand, claimed_by, hand_in, with_result_collected, next_cell, posted}
use Rattle.mbj_core.specs.Stands.{StandsFor, Leads}
use Rattle.mbj_core.specs.declared.cells.TheConstants.{SUBMITTER_CELLS}
use Rattle.mbj_core.proofs.Entries.{set_else}
use Rattle.mbj_replay.specs.Inside.Claiming.{ClaimsAt}
use Rattle.mbj_replay.specs.Inside.Giving.{core_after}
use Rattle.mbj_replay.specs.Inside.State.{EachHolds, Follows, HasStock, Holds, IsPlaying, with_copy}
use Rattle.mbj_replay.specs.declared.replayer.Posted.{Posted}
use Rattle.mbj_replay.specs.declared.replayer.Replayer.{Replayer}
use Rattle.mbj_replay.specs.declared.replayer.Unposted.{Unposted}
use Rattle.mbj_replay.specs.declared.worker.Worker.{Worker}
use Rattle.mbj_replay.proofs.Fronts.{Entry, KeepsHands, KeepsJobs, first-finishes, first-held, first-taken, jobs-kept, next-is}

-- ---- places of a list

at-set : {A : Type 0} (xs : List A) (i : ℕ) (a b : A) → slice_get (set xs i a) i ≡ Some b → b ≡ a
at-set [] i a b e = absurd (none-some b e)
at-set (x ∷ xs) zero a b e = sym (same_Some a b e)
at-set (x ∷ xs) (suc i) a b e = at-set xs i a b e

-- what holds of a new item, and of the others, holds at each place
pub at-places : {A : Type 0} (xs : List A) (i j : ℕ) (a b : A) (P : Type 0) → slice_get (set xs i a) j ≡ Some b
    → (j ≡ i → b ≡ a → P) → (j ≢ i → slice_get xs j ≡ Some b → P) → P
at-places xs i j a b P at here other = dite (ℕ_discrete j i)
    (λ same. here same (at-set xs i a b (ap (slice_get (set xs i a)) (sym same) ∙ at)))
    (λ apart. other apart (sym (set_else xs i j a apart) ∙ at))

-- ---- workers

others-hold : (submitters w p : ℕ) (workers : List Worker) (y : Worker) (f h : FrontState Job Done) → p ≡ submitters + w
    → EachHolds submitters workers f → KeepsHands p f h → Holds y (h.seats p).hand
    → EachHolds submitters (set workers w y) h
others-hold submitters w p workers y f h party each kept holds = λ v x at.
    at-places workers w v y x (Holds x (h.seats (submitters + v)).hand) at
    (λ same is. let here : p ≡ submitters + v = omega (arith, party, same) in
    subst (λ (z : Worker). Holds z (h.seats (submitters + v)).hand) (sym is) (subst (λ (u : ℕ). Holds y (h.seats u).hand) here holds))
    (λ apart before. subst (Holds x) (sym (kept (submitters + v) (λ e. apart (omega (arith, party, e))))) (each v x before))

all-hold : (submitters : ℕ) (workers : List Worker) (f h : FrontState Job Done)
    → EachHolds submitters workers f → ((w : ℕ) → (h.seats (submitters + w)).hand ≡ (f.seats (submitters + w)).hand)
    → EachHolds submitters workers h
all-hold submitters workers f h each kept = λ w x at. subst (Holds x) (sym (kept w)) (each w x at)

-- ---- the stock

module _ {jobs : List Job} {submitters : ℕ} {nexts : List ℕ} {unposted : List (Option Unposted)} {posted : List Posted} where
  -- if no jobs are new in the cells
  stock-kept : (f h : FrontState Job Done) → HasStock jobs submitters nexts unposted posted f.cells → KeepsJobs f h
      → HasStock jobs submitters nexts unposted posted h.cells
  stock-kept f h stock kept = record {
    next_count = stock.next_count;
    each_next = stock.each_next;
    job_count = stock.job_count;
    each_left = stock.each_left;
    cell_count = stock.cell_count;
    each_ready = λ c job x at there. stock.each_ready c job x at (kept c job there);
  }

  -- if a cell's job is claimed, and its copy is taken
  stock-claimed : (f h : FrontState Job Done) (cell : ℕ) (taken : Posted)
      → HasStock jobs submitters nexts unposted posted f.cells → KeepsJobs f h → ((job : Job) → h.cells cell ≢ ready job)
      → HasStock jobs submitters nexts unposted (set posted cell taken) h.cells
  stock-claimed f h cell taken stock kept gone = record {
    next_count = stock.next_count;
    each_next = stock.each_next;
    job_count = stock.job_count;
    each_left = stock.each_left;
    cell_count = length-set posted cell taken ∙ stock.cell_count;
    each_ready = λ c job x at there. at-places posted cell c taken x (x.copy ≡ Some job) at
        (λ same is. absurd (gone job (ap h.cells (sym same) ∙ there)))
        (λ apart before. stock.each_ready c job x before (kept c job there));
  }

  -- if a submitter's next job is posted, and its copy goes to the cell
  stock-posted : (f h : FrontState Job Done) (s n cell : ℕ) (job : Job) (left : Option Unposted) (x : Posted)
      → HasStock jobs submitters nexts unposted posted f.cells → s < submitters → slice_get nexts s ≡ Some n → n < length jobs → x.copy ≡ Some job
      → h.cells cell ≡ ready job → ((i : ℕ) → i ≢ cell → h.cells i ≡ f.cells i)
      → HasStock jobs submitters (set nexts s (n + submitters)) (set unposted n left) (set posted cell x) h.cells
  stock-posted f h s n cell job left x stock some next within has there others =
      let own = stock.each_next s n next in
      record {
        next_count = length-set nexts s (n + submitters) ∙ stock.next_count;
        each_next = λ t m at. at-places nexts s t (n + submitters) m ((m % submitters ≡ t) × (m < length jobs + submitters)) at
            (λ same is. (ap (λ (k : ℕ). k % submitters) is ∙ add-mod_right n submitters ∙ own.0 ∙ sym same, omega (arith, is, within)))
            (λ apart before. stock.each_next t m before);
        job_count = length-set unposted n left ∙ stock.job_count;
        each_left = λ t m k at above of. let all = later t m k at above of in set_else unposted n k left all.0 ∙ all.1;
        cell_count = length-set posted cell x ∙ stock.cell_count;
        each_ready = λ c j y at is. at-places posted cell c x y (y.copy ≡ Some j) at
            (λ same is_x. let ready_there : ready job ≡ ready j = sym there ∙ ap h.cells (sym same) ∙ is in
            let same_job : job ≡ j = cc in
            ap (λ (z : Posted). z.copy) is_x ∙ has ∙ ap Some same_job)
            (λ apart before. stock.each_ready c j y before (sym (others c apart) ∙ is));
      }
    where
      -- a later job of a submitter isn't the one that was posted
      later : (t m k : ℕ) → slice_get (set nexts s (n + submitters)) t ≡ Some m → m ≤ k → k % submitters ≡ t
          → (k ≢ n) × (slice_get unposted k ≡ option_map with_copy (slice_get jobs k))
      later t m k at above of = at-places nexts s t (n + submitters) m ((k ≢ n) × (slice_get unposted k ≡ option_map with_copy (slice_get jobs k))) at
          (λ same is. (λ e. omega (arith, is, e), stock.each_left s n k next (omega (arith, is)) (of ∙ same)))
          (λ apart before. (λ e. apart (sym of ∙ ap (λ (i : ℕ). i % submitters) e ∙ (stock.each_next s n next).0), stock.each_left t m k before above of))

-- ---- between a claim, or a flush, and the finish that it leads to

-- the front is g, in which the party's hand has the cells; the worker's hand and manager have the entries behind the
-- one that was given back
pub record Taken (core : CoreState) (p : ℕ) (cells : List ℕ) (given : Option Entry) (y : Worker) (f g : FrontState Job Done) : Type 0 where
  pub front : StandsFor core g
  pub rest : List Entry
  pub hand : (g.seats p).hand ≡ option_to_list given ++ rest
  pub holds : Holds y rest
  pub whole : map (λ e. e.0) (g.seats p).hand ≡ cells
  pub hands : KeepsHands p f g
  pub jobs : KeepsJobs f g

-- what the core says of that hand
taken-hand : (core : CoreState) (p : ℕ) (cells : List ℕ) (given : Option Entry) (y : Worker) (f g : FrontState Job Done)
    → Taken core p cells given y f g → p < core.submitters + core.workers → hand_in core p ≡ cells
taken-hand core p cells given y f g t near =
    get_or_from_slice_get core.hands p (map (λ e. e.0) (g.seats p).hand) [] (t.front.each_hand p near) ∙ t.whole

-- a flush
flush-taken : (core : CoreState) (p : ℕ) (given : Option Entry) (x y : Worker) (f : FrontState Job Done)
    → StandsFor core f → Holds x (f.seats p).hand
    → option_to_list (option_map (λ t. t.0) given) ++ y.hand.items ≡ x.hand.items
    → option_to_list (option_map (λ t. t.1) given) ++ y.manager.owed ≡ x.manager.owed
    → Taken core p x.hand.items given y f f
flush-taken core p given x y f front holds cells owed =
    let first = first-taken given y.hand.items y.manager.owed (f.seats p).hand (cells ∙ holds.cells) (owed ∙ holds.owed) in
    record {
      front = front;
      rest = first.0;
      hand = first.1;
      holds = record { cells = first.2; owed = first.3 };
      whole = sym holds.cells;
      hands = λ q other. refl;
      jobs = λ i job there. there;
    }

-- the copy of the job that is claimed
pub claim-copy : (jobs : List Job) (r : Replayer) (mid : CoreState) (p cell : ℕ) (z : Posted) → IsPlaying jobs r → slice_get r.posted.items cell ≡ Some z
    → (claims : ClaimsAt r.core p cell mid) → z.copy ≡ Some claims.job
claim-copy jobs r mid p cell z playing at claims =
    let step = claims.leads playing.0 playing.1.front in
    playing.1.stock.each_ready cell claims.job z at step.1.2

-- a claim
pub record Claimed (core : CoreState) (p cell : ℕ) (given : Option Entry) (x y : Worker) (f g : FrontState Job Done) : Type 0 where
  pub taken : Taken core p (x.hand.items ++ cell ∷ []) given y f g
  pub gone : (j : Job) → g.cells cell ≢ ready j

claim-taken : (jobs : List Job) (r : Replayer) (core : CoreState) (p cell : ℕ) (given : Option Entry) (x y : Worker) (f : FrontState Job Done)
    → Follows jobs r f → Holds x (f.seats p).hand → (claims : ClaimsAt r.core p cell core)
    → option_to_list (option_map (λ t. t.0) given) ++ y.hand.items ≡ x.hand.items ++ cell ∷ []
    → option_to_list (option_map (λ t. t.1) given) ++ y.manager.owed ≡ x.manager.owed ++ result_of claims.job ∷ []
    → (g : FrontState Job Done) × Claimed core p cell given x y f g
claim-taken jobs r core p cell given x y f follows holds claims cells owed =
    let step = claims.leads f follows.front in
    let g : FrontState Job Done = step.0 in
    let changes = step.1.3 in
    let entry : Entry = (cell, result_of claims.job) in
    let old : List Entry = (f.seats p).hand in
    let now : (g.seats p).hand ≡ old ++ entry ∷ [] = ap (λ v. v.hand) changes.party in
    let whole : map (λ e. e.0) (g.seats p).hand ≡ x.hand.items ++ cell ∷ []
    = ap (map (λ e. e.0)) now ∙ map-append (λ (e : Entry). e.0) old (entry ∷ []) ∙ ap (λ (l : List ℕ). l ++ cell ∷ []) (sym holds.cells) in
    let results : map (λ e. e.1) (g.seats p).hand ≡ x.manager.owed ++ result_of claims.job ∷ []
    = ap (map (λ e. e.1)) now ∙ map-append (λ (e : Entry). e.1) old (entry ∷ []) ∙ ap (λ (l : List Done). l ++ result_of claims.job ∷ []) (sym holds.owed) in
    let first = first-taken given y.hand.items y.manager.owed (g.seats p).hand (cells ∙ sym whole) (owed ∙ sym results) in (
      g,
      record {
        taken = record {
          front = step.2;
          rest = first.0;
          hand = first.1;
          holds = record { cells = first.2; owed = first.3 };
          whole = whole;
          hands = λ q other. ap (λ v. v.hand) (changes.other_parties q other);
          jobs = jobs-kept f g cell (hand_of p (result_of claims.job)) changes.cell changes.other_cells (λ j e. cc);
        };
        gone = λ j there. let bad : hand_of p (result_of claims.job) ≡ ready j = sym changes.cell ∙ there in cc;
      },
    )

-- ---- the whole

-- the parts of a replay after a command
assembled : (jobs : List Job) (r : Replayer) (new : CoreState) (g : FrontState Job Done) (workers : Vec Worker Global)
    (nexts : Vec ℕ Global) (unposted : Vec (Option Unposted) Global) (posted : Vec Posted Global)
    → new.submitters ≡ r.core.submitters → new.workers ≡ r.core.workers → StandsFor new g
    → length workers.items ≡ r.core.workers → EachHolds r.core.submitters workers.items g
    → HasStock jobs r.core.submitters nexts.items unposted.items posted.items g.cells
    → IsPlaying jobs (record { core = new; workers = workers; unposted = unposted; nexts = nexts; posted = posted })
assembled jobs r new g workers nexts unposted posted submitters count front length_is hold stock = (
  g,
  record {
    front = front;
    worker_count = length_is ∙ sym count;
    workers = subst (λ (n : ℕ). EachHolds n workers.items g) (sym submitters) hold;
    stock = subst (λ (n : ℕ). HasStock jobs n nexts.items unposted.items posted.items g.cells) (sym submitters) stock;
  },
)

-- a finish leaves the parties
pub parties : (p : ℕ) (given : Option Entry) (c : CoreState) → ((core_after p given c).submitters ≡ c.submitters) × ((core_after p given c).workers ≡ c.workers)
parties p None c = (refl, refl)
parties p (Some e) c = (refl, refl)

-- an entry of the jobs that are not posted is the file's job of that number, and its copy
entry-is : (o : Option Job) (x : Option Unposted) → Some x ≡ option_map with_copy o → (job : Job) × (o ≡ Some job) × (x ≡ with_copy job)
entry-is None x is = absurd (none-some x (sym is))
entry-is (Some job) x is = (job, refl, same_Some x (with_copy job) is)

-- the next job of a submitter isn't posted
pub next-left : (jobs : List Job) (r : Replayer) (s n : ℕ) (x : Option Unposted) → IsPlaying jobs r → slice_get r.nexts.items s ≡ Some n
    → slice_get r.unposted.items n ≡ Some x → (job : Job) × (slice_get jobs n ≡ Some job) × (x ≡ with_copy job)
next-left jobs r s n x playing next at =
    let stock = playing.1.stock in
    entry-is (slice_get jobs n) x (sym at ∙ stock.each_left s n n next (omega arith) (stock.each_next s n next).0)

-- the next job of a submitter is posted
pub post-plays : (jobs : List Job) (r : Replayer) (new : CoreState) (s n cell : ℕ) (job : Job) (left : Option Unposted) (x : Posted)
    (nexts : Vec ℕ Global) (unposted : Vec (Option Unposted) Global) (cells : Vec Posted Global)
    → IsPlaying jobs r → s < r.core.submitters → slice_get r.nexts.items s ≡ Some n → slice_get jobs n ≡ Some job → x.copy ≡ Some job
    → cell ≡ next_cell r.core s → new ≡ posted r.core s job → Leads r.core (post s job) carried_out new
    → nexts.items ≡ set r.nexts.items s (n + r.core.submitters) → unposted.items ≡ set r.unposted.items n left
    → cells.items ≡ set r.posted.items cell x
    → IsPlaying jobs (record { core = new; workers = r.workers; unposted = unposted; nexts = nexts; posted = cells })
post-plays jobs r new s n cell job left x nexts unposted cells playing below next is_job has at same leads are_nexts are_left are_cells =
    let f = playing.0 in
    let follows = playing.1 in
    let step = leads f follows.front in
    let g : FrontState Job Done = step.0 in
    let changes = step.1.2 in
    let here : cell ≡ cell_of s (length (f.seats s).due) = at ∙ next-is r.core f s follows.front below in
    let stock = stock-posted f g s n cell job left x follows.stock below next (slice_get_within jobs n job is_job) has
    (ap g.cells here ∙ changes.cell) (λ i apart. changes.other_cells i (λ e. apart (e ∙ sym here))) in
    assembled jobs r new g r.workers nexts unposted cells (ap (λ (c : CoreState). c.submitters) same) (ap (λ (c : CoreState). c.workers) same)
    step.2 follows.worker_count
    (all-hold r.core.submitters r.workers.items f g follows.workers (λ w. ap (λ v. v.hand) (changes.other_parties (r.core.submitters + w) (λ e. omega (arith, e, below)))))
    (subst (λ (ns : List ℕ). HasStock jobs r.core.submitters ns unposted.items cells.items g.cells) (sym are_nexts)
    (subst (λ (us : List (Option Unposted)). HasStock jobs r.core.submitters (set r.nexts.items s (n + r.core.submitters)) us cells.items g.cells) (sym are_left)
    (subst (λ (zs : List Posted). HasStock jobs r.core.submitters (set r.nexts.items s (n + r.core.submitters)) (set r.unposted.items n left) zs g.cells) (sym are_cells) stock)))

-- a result that is collected changes no hand, and leaves its cell free
pub collect-plays : (jobs : List Job) (r : Replayer) (new : CoreState) (s : ℕ) (d : Done) → IsPlaying jobs r → s < r.core.submitters
    → new ≡ with_result_collected r.core s → Leads r.core (collect s) (collected d) new
    → IsPlaying jobs (record { core = new; workers = r.workers; unposted = r.unposted; nexts = r.nexts; posted = r.posted })
collect-plays jobs r new s d playing below same leads =
    let f = playing.0 in
    let follows = playing.1 in
    let step = leads f follows.front in
    let g : FrontState Job Done = step.0 in
    let changes = step.1.2 in
    assembled jobs r new g r.workers r.nexts r.unposted r.posted (ap (λ (c : CoreState). c.submitters) same) (ap (λ (c : CoreState). c.workers) same)
    step.2 follows.worker_count
    (all-hold r.core.submitters r.workers.items f g follows.workers (λ w. ap (λ v. v.hand) (changes.other_parties (r.core.submitters + w) (λ e. omega (arith, e, below)))))
    (stock-kept f g follows.stock (jobs-kept f g (cell_of s (f.seats s).handed) free changes.cell changes.other_cells (λ job e. cc)))

module _ (jobs : List Job) (r : Replayer) (w p : ℕ) (given : Option Entry) (x y : Worker)
    (playing : IsPlaying jobs r) (party : p ≡ r.core.submitters + w) (at : slice_get r.workers.items w ≡ Some x) where
  holds : Holds x (playing.0.seats p).hand
  holds = subst (λ (q : ℕ). Holds x (playing.0.seats q).hand) (sym party) (playing.1.workers w x at)

  -- what the core says of the worker's hand
  pub worker-hand : w < r.core.workers → hand_in r.core (r.core.submitters + w) ≡ x.hand.items
  worker-hand near =
      let q = r.core.submitters + w in
      get_or_from_slice_get r.core.hands q (map (λ e. e.0) (playing.0.seats q).hand) [] (playing.1.front.each_hand q (omega (arith, near)))
      ∙ sym (playing.1.workers w x at).cells

  -- a worker's flush, and the finish that it leads to
  module _ (hand : option_to_list (option_map (λ t. t.0) given) ++ y.hand.items ≡ x.hand.items)
      (owed : option_to_list (option_map (λ t. t.1) given) ++ y.manager.owed ≡ x.manager.owed)
      (law : (f : FrontState Job Done) → StandsFor r.core f → Lawful result_of r.core.submitters r.core.workers f) where
    flushed : Taken r.core p x.hand.items given y playing.0 playing.0
    flushed = flush-taken r.core p given x y playing.0 playing.1.front holds hand owed

    pub flush-held : IfSome given (λ e. (e.0 < SUBMITTER_CELLS * r.core.submitters) × HasHand r.core e.0 p e.1)
    flush-held = first-held r.core playing.0 p given flushed.rest flushed.front (law playing.0 flushed.front) flushed.hand

    pub flush-plays : (new : CoreState) (workers : Vec Worker Global) → new ≡ core_after p given r.core
        → IfSome given (λ e. Leads r.core (finish p e.0 e.1) carried_out new) → workers.items ≡ set r.workers.items w y
        → IsPlaying jobs (record { core = new; workers = workers; unposted = r.unposted; nexts = r.nexts; posted = r.posted })
    flush-plays new workers same leads are =
        let f = playing.0 in
        let follows = playing.1 in
        let last = first-finishes r.core new f p given flushed.rest flushed.front (law f flushed.front) flushed.hand same leads in
        let h : FrontState Job Done = last.0 in
        let hold : EachHolds r.core.submitters (set r.workers.items w y) h
        = others-hold r.core.submitters w p r.workers.items y f h party follows.workers last.1.hands (subst (Holds y) (sym last.1.hand) flushed.holds) in
        assembled jobs r new h workers r.nexts r.unposted r.posted
        (ap (λ (c : CoreState). c.submitters) same ∙ (parties p given r.core).0) (ap (λ (c : CoreState). c.workers) same ∙ (parties p given r.core).1)
        last.1.front (ap length are ∙ length-set r.workers.items w y ∙ follows.worker_count)
        (subst (λ (ws : List Worker). EachHolds r.core.submitters ws h) (sym are) hold)
        (stock-kept f h follows.stock last.1.jobs)

  -- a worker's claim, and the finish that it leads to
  module _ (mid : CoreState) (cell : ℕ) (claims : ClaimsAt r.core p cell mid)
      (hand : option_to_list (option_map (λ t. t.0) given) ++ y.hand.items ≡ x.hand.items ++ cell ∷ [])
      (owed : option_to_list (option_map (λ t. t.1) given) ++ y.manager.owed ≡ x.manager.owed ++ result_of claims.job ∷ [])
      (law : (f : FrontState Job Done) → StandsFor mid f → Lawful result_of mid.submitters mid.workers f) where
    claimed-by : (g : FrontState Job Done) × Claimed mid p cell given x y playing.0 g
    claimed-by = claim-taken jobs r mid p cell given x y playing.0 playing.1 holds claims hand owed

    pub claim-held : IfSome given (λ e. (e.0 < SUBMITTER_CELLS * mid.submitters) × HasHand mid e.0 p e.1)
    claim-held = let part = claimed-by.1.taken in first-held mid claimed-by.0 p given part.rest part.front (law claimed-by.0 part.front) part.hand

    pub claim-hand : w < r.core.workers → hand_in (claimed_by r.core (r.core.submitters + w) cell claims.job) (r.core.submitters + w) ≡ x.hand.items ++ cell ∷ []
    claim-hand near =
        let submitters : mid.submitters ≡ r.core.submitters = ap (λ (c : CoreState). c.submitters) claims.state in
        let workers : mid.workers ≡ r.core.workers = ap (λ (c : CoreState). c.workers) claims.state in
        let in_mid : hand_in mid p ≡ x.hand.items ++ cell ∷ []
        = taken-hand mid p (x.hand.items ++ cell ∷ []) given y playing.0 claimed-by.0 claimed-by.1.taken (omega (arith, party, near, submitters, workers)) in
        subst (λ (q : ℕ). hand_in (claimed_by r.core q cell claims.job) q ≡ x.hand.items ++ cell ∷ []) party
        (subst (λ (c : CoreState). hand_in c p ≡ x.hand.items ++ cell ∷ []) claims.state in_mid)

    pub claim-plays : (new : CoreState) (taken : Posted) (workers : Vec Worker Global) (cells : Vec Posted Global) → new ≡ core_after p given mid
        → IfSome given (λ e. Leads mid (finish p e.0 e.1) carried_out new)
        → workers.items ≡ set r.workers.items w y → cells.items ≡ set r.posted.items cell taken
        → IsPlaying jobs (record { core = new; workers = workers; unposted = r.unposted; nexts = r.nexts; posted = cells })
    claim-plays new taken workers cells same leads are_workers are_cells =
        let f = playing.0 in
        let follows = playing.1 in
        let g : FrontState Job Done = claimed-by.0 in
        let part = claimed-by.1.taken in
        let last = first-finishes mid new g p given part.rest part.front (law g part.front) part.hand same leads in
        let h : FrontState Job Done = last.0 in
        let hold : EachHolds r.core.submitters (set r.workers.items w y) h
        = others-hold r.core.submitters w p r.workers.items y f h party follows.workers (λ q other. last.1.hands q other ∙ part.hands q other)
        (subst (Holds y) (sym last.1.hand) part.holds) in
        let stock : HasStock jobs r.core.submitters r.nexts.items r.unposted.items (set r.posted.items cell taken) h.cells
        = stock-kept g h (stock-claimed f g cell taken follows.stock part.jobs claimed-by.1.gone) last.1.jobs in
        assembled jobs r new h workers r.nexts r.unposted cells
        (ap (λ (c : CoreState). c.submitters) same ∙ (parties p given mid).0 ∙ ap (λ (c : CoreState). c.submitters) claims.state)
        (ap (λ (c : CoreState). c.workers) same ∙ (parties p given mid).1 ∙ ap (λ (c : CoreState). c.workers) claims.state)
        last.1.front (ap length are_workers ∙ length-set r.workers.items w y ∙ follows.worker_count)
        (subst (λ (ws : List Worker). EachHolds r.core.submitters ws h) (sym are_workers) hold)
        (subst (λ (zs : List Posted). HasStock jobs r.core.submitters r.nexts.items r.unposted.items zs h.cells) (sym are_cells) stock)
