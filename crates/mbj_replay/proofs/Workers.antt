-- A worker's command leads from a front that the core stands for to another by the events that its lines tell of.
use Rattle.std.proofs.Common.{◌≡◌, ◌≢◌, ◌∙◌, ◌+◌, ◌*◌, ◌<◌, ◌++◌, [], ◌∷◌, ap, sym, subst, refl, ℕ, List, Option, None, Some, map, length, set, option_to_list, IfSome, arith, length-set, get_or-set_same}
use Rattle.std.specs.Prelude.{slice_get}
use Rattle.std.specs.List.{flat_map}
use Rattle.std.proofs.lemmas.List.{map-append}
use Rattle.std.proofs.lemmas.Option.{get_or_from_slice_get, none-some, same_Some, slice_get-get_or}
use mathlib.Core.Logic.{dite}
use native.Mathlib.Decide.{ℕ_discrete}
use Rattle.mbj_types.specs.Result.{result_of}
use Rattle.mbj_types.specs.declared.job.Job.{Job}
use Rattle.mbj_types.specs.declared.done.Done.{Done}
use Rattle.mbj_core.specs.Cells.{Cell, free, ready, done, open_by, hand_of, take_by, result_in}
use Rattle.mbj_core.specs.Parties.{FrontState}
use Rattle.mbj_core.specs.Lawful.{Lawful}
use Rattle.mbj_core.specs.Events.{Step, claim, finish, carried_out, claimed}
use Rattle.mbj_core.specs.Runs.{Run}
use Rattle.mbj_core.specs.CoreStates.{CoreState, HasHand, cell_in, claimed_by}
use Rattle.mbj_core.specs.Stands.{Leads, IsBacked}
use Rattle.mbj_core.specs.declared.cells.TheConstants.{SUBMITTER_CELLS}
use Rattle.mbj_core.proofs.Calls.{Sizes, claims_lead, finishes_lead}
use Rattle.mbj_core.proofs.Steps.{step_sound}
use Rattle.mbj_ring.specs.declared.ring.TheConstants as ring
use Rattle.mbj_manager.specs.Machine.Stages.{Pending}
use Rattle.mbj_manager.specs.State.{ManagerState, after_flush, given_at, new_manager, after_submit, with_open}
use Rattle.mbj_text.specs.declared.command.Cmd.TheVariants as command
use Rattle.mbj_replay.specs.Events.{Answered, ResultIs, Tells}
use Rattle.mbj_replay.specs.Replay.{Replaying, Replayed, cells_out, claim_of, first_ready, hand, job_or, manager, cell_number, party, told}
use Rattle.mbj_replay.specs.Inside.Giving.{core_after, first_with}
use Rattle.mbj_replay.specs.declared.line.ReplayLine.TheVariants as line
use Rattle.mbj_replay.proofs.Commands.{at-places, parties}
use Rattle.mbj_replay.proofs.CommandLines.{after_finish, finish-is, finish_of, if-apart, if-same, with_claim, with_manager}
use Rattle.mbj_replay.proofs.Fronts.{Entry, KeepsResults, KeepsJobs, finish-event, first-finishes, first-held, jobs-kept, results-kept}
use Rattle.mbj_replay.proofs.Playing.{EachOwes, Goes, OthersOwe, Owes, Plays, Stands, backed, cell-is, goes-nowhere, run-sound, sound}

-- ---- finish

finish-sizes : (p : ℕ) (given : Option Entry) (c : CoreState) → Sizes c → Sizes (core_after p given c)
finish-sizes p None c sizes = sizes
finish-sizes p (Some e) c sizes = record {
  cells = length-set c.cells e.0 (done e.1) ∙ sizes.cells;
  hands = length-set c.hands p _ ∙ sizes.hands;
  outs = sizes.outs;
}

finish-leads : (core : CoreState) (p : ℕ) (given : Option Entry) → Sizes core → IsBacked core → p < core.submitters + core.workers
    → IfSome given (λ e. (e.0 < SUBMITTER_CELLS * core.submitters) × HasHand core e.0 p e.1)
    → IfSome given (λ e. Leads core (finish p e.0 e.1) carried_out (core_after p given core))
finish-leads core p None sizes behind near held = tt
finish-leads core p (Some e) sizes behind near held = finishes_lead core sizes behind p e.0 e.1 near held.0 held.1

-- what is finished is the result of its job
pub record Ends (jobs : List Job) (r : Replaying) (f : FrontState Job Done) (w : ℕ) (given : Option Entry) : Type 0 where
  pub to : FrontState Job Done
  pub run : Run result_of r.core.submitters r.core.workers f (option_to_list (finish-event (party w r) given)) to
  pub results : IfSome given (λ e. ResultIs jobs (cell_number r e.0) e.1)
  pub plays : Plays jobs (after_finish w given r) to

given-result : (jobs : List Job) (r : Replaying) (f : FrontState Job Done) (p : ℕ) (given : Option Entry) → Stands jobs r f
    → IfSome given (λ e. (e.0 < SUBMITTER_CELLS * r.core.submitters) × HasHand r.core e.0 p e.1) → IfSome given (λ e. ResultIs jobs (cell_number r e.0) e.1)
given-result jobs r f p None st held = tt
given-result jobs r f p (Some e) st held =
    st.results e.0 e.1 held.0 (ap (result_in result_of) (cell-is jobs r f e.0 (hand_of p e.1) st held.1).1)

ends : (jobs : List Job) (r : Replaying) (f : FrontState Job Done) (w : ℕ) (given : Option Entry) (rest : List Entry) (m : ManagerState)
    → Stands jobs r f → w < r.core.workers → (f.seats (party w r)).hand ≡ option_to_list given ++ rest
    → slice_get r.managers w ≡ Some m → m.owed ≡ map (λ e. e.1) rest → OthersOwe w r f → Ends jobs r f w given
ends jobs r f w given rest m st near is at owed others =
    let p : ℕ = party w r in
    let held = first-held r.core f p given rest st.front st.law is in
    let leads = finish-leads r.core p given st.sizes (backed jobs r f st) (omega (arith, near)) held in
    let last = first-finishes r.core (core_after p given r.core) f p given rest st.front st.law is refl leads in
    let h : FrontState Job Done = last.0 in
    let same = parties p given r.core in
    let law : Lawful result_of r.core.submitters r.core.workers h
    = (run-sound r.core.submitters r.core.workers f h (option_to_list (finish-event p given)) last.1.run (sound r.core f st.front st.law)).1 in
    record {
      to = h;
      run = last.1.run;
      results = given-result jobs r f p given st held;
      plays = record {
        stands = record {
          sizes = finish-sizes p given r.core st.sizes;
          front = last.1.front;
          law = subst (λ (n : ℕ × ℕ). Lawful result_of n.0 n.1 h) (λ t. (sym same.0 t, sym same.1 t)) law;
          manager_count = st.manager_count ∙ sym same.1;
          number_count = st.number_count ∙ ap (λ (n : ℕ). SUBMITTER_CELLS * n) (sym same.0);
          jobs_are = λ cell job below there. st.jobs_are cell job (subst (λ (n : ℕ). cell < SUBMITTER_CELLS * n) same.0 below) (last.1.jobs cell job there);
          results = λ cell d below there. st.results cell d (subst (λ (n : ℕ). cell < SUBMITTER_CELLS * n) same.0 below) (last.1.results cell d there);
        };
        owes = subst (λ (n : ℕ). (v : ℕ) (x : ManagerState) → slice_get r.managers v ≡ Some x → Owes n h v x) (sym same.0)
            (λ v x there. dite (ℕ_discrete v w)
            (λ mine. let one : x ≡ m = same_Some x m (sym there ∙ ap (slice_get r.managers) mine ∙ at) in
            ap (λ (y : ManagerState). y.owed) one ∙ owed ∙ ap (map (λ e. e.1)) (sym last.1.hand)
            ∙ ap (λ (u : ℕ). map (λ e. e.1) (h.seats (r.core.submitters + u)).hand) (sym mine))
            (λ apart. others v x apart there
            ∙ ap (map (λ e. e.1)) (sym (last.1.hands (r.core.submitters + v) (λ e. apart (omega (arith, e)))))));
      };
    }

-- ---- what a manager gives back

given-at : (ds : List Done) (left : List (List Pending)) (h : ManagerState) → h.owed ≡ ds → option_to_list (given_at ds left h).0 ++ (given_at ds left h).1.owed ≡ ds
given-at [] left h e = e
given-at (d ∷ ds) [] h e = e
given-at (d ∷ ds) ([] ∷ left) h e = refl
given-at (d ∷ ds) ((p ∷ ps) ∷ left) h e = e

flushed-owed : (m : ManagerState) → option_to_list (after_flush m).0 ++ (after_flush m).1.owed ≡ m.owed
flushed-owed m = given-at m.owed _ _ refl

submitted-owed : (m : ManagerState) (job : Job) → option_to_list (after_submit (with_open m job)).0 ++ (after_submit (with_open m job)).1.owed ≡ m.owed ++ result_of job ∷ []
submitted-owed m job = given-at (m.owed ++ result_of job ∷ []) _ _ refl

-- it goes with the first cell of the hand
first-given : (entries : List Entry) (o : Option Done) (owed : List Done) → option_to_list o ++ owed ≡ map (λ e. e.1) entries
    → (rest : List Entry) × (entries ≡ option_to_list (first_with (map (λ e. e.0) entries) o) ++ rest) × (owed ≡ map (λ e. e.1) rest)
first-given [] None owed e = ([], refl, e)
first-given [] (Some d) owed e = cc
first-given (x ∷ xs) None owed e = (x ∷ xs, refl, e)
first-given (x ∷ xs) (Some d) owed e =
    let result : d ≡ x.1 = cc in
    (xs, ap (λ (y : Done). (x.0, y) ∷ xs) (sym result), cc)

hand-is : (jobs : List Job) (r : Replaying) (f : FrontState Job Done) (w : ℕ) → Stands jobs r f → w < r.core.workers
    → hand w r ≡ map (λ e. e.0) (f.seats (party w r)).hand
hand-is jobs r f w st near =
    get_or_from_slice_get r.core.hands (party w r) (map (λ e. e.0) (f.seats (party w r)).hand) [] (st.front.each_hand (party w r) (omega (arith, near)))

manager-at : (jobs : List Job) (r : Replaying) (f : FrontState Job Done) (w : ℕ) → Stands jobs r f → w < r.core.workers
    → slice_get r.managers w ≡ Some (manager w r)
manager-at jobs r f w st near = let count = st.manager_count in slice_get-get_or r.managers w new_manager (omega (arith, near, count))

-- a worker's manager gave o back, and the rest of the hand is still owed
gives : (jobs : List Job) (r : Replaying) (f : FrontState Job Done) (w : ℕ) (o : Option Done) (m : ManagerState)
    → Stands jobs r f → w < r.core.workers → slice_get r.managers w ≡ Some m
    → option_to_list o ++ m.owed ≡ map (λ e. e.1) (f.seats (party w r)).hand → OthersOwe w r f → Ends jobs r f w (first_with (hand w r) o)
gives jobs r f w o m st near at order others =
    let first = first-given (f.seats (party w r)).hand o m.owed order in
    subst (λ (cells : List ℕ). Ends jobs r f w (first_with cells o)) (sym (hand-is jobs r f w st near))
    (ends jobs r f w (first_with (map (λ e. e.0) (f.seats (party w r)).hand) o) first.0 m st near first.1 at first.2 others)

-- if a worker's manager is another, the others owe as before
others-owe : (r : Replaying) (f : FrontState Job Done) (w : ℕ) (m : ManagerState) → EachOwes r f
    → (v : ℕ) (x : ManagerState) → v ≢ w → slice_get (set r.managers w m) v ≡ Some x → Owes r.core.submitters f v x
others-owe r f w m each v x apart at =
    at-places r.managers w v m x (Owes r.core.submitters f v x) at (λ same is. absurd (apart same)) (λ other before. each v x before)

manager-set : (jobs : List Job) (r : Replaying) (f : FrontState Job Done) (w : ℕ) (m : ManagerState) → Stands jobs r f → w < r.core.workers
    → slice_get (set r.managers w m) w ≡ Some m
manager-set jobs r f w m st near =
    let count = st.manager_count in
    slice_get-get_or (set r.managers w m) w m (let longer = length-set r.managers w m in omega (arith, near, count, longer))
    ∙ ap Some (get_or-set_same r.managers w m m (omega (arith, near, count)))

-- ---- flush

with-manager : (jobs : List Job) (r : Replaying) (f : FrontState Job Done) (w : ℕ) (m : ManagerState) → Stands jobs r f → Stands jobs (with_manager w m r) f
with-manager jobs r f w m st = record {
  sizes = st.sizes;
  front = st.front;
  law = st.law;
  manager_count = length-set r.managers w m ∙ st.manager_count;
  number_count = st.number_count;
  jobs_are = st.jobs_are;
  results = st.results;
}

finish-tells : (jobs : List Job) (r : Replaying) (w : ℕ) (given : Option Entry) → IfSome given (λ e. ResultIs jobs (cell_number r e.0) e.1)
    → Tells jobs r.core.submitters (line.Finish w (finish_of r given)) (finish-event (party w r) given)
finish-tells jobs r w None result = tt
finish-tells jobs r w (Some e) result = (refl, result)

one-run : (submitters workers : ℕ) (f g : FrontState Job Done) (o : Option Answered) → Run result_of submitters workers f (option_to_list o) g
    → Run result_of submitters workers f (flat_map option_to_list (o ∷ [])) g
one-run submitters workers f g None run = run
one-run submitters workers f g (Some e) run = run

flush-ends : (jobs : List Job) (r : Replaying) (f : FrontState Job Done) (w : ℕ) (given : Option Entry) (m : ManagerState) → Ends jobs (with_manager w m r) f w given
    → Goes jobs r f (line.Finish w (finish_of (with_manager w m r) given) ∷ [], after_finish w given (with_manager w m r))
flush-ends jobs r f w given m end = record {
  events = finish-event (party w r) given ∷ [];
  to = end.to;
  tells = (finish-tells jobs (with_manager w m r) w given end.results, tt);
  run = one-run r.core.submitters r.core.workers f end.to (finish-event (party w r) given) end.run;
  plays = end.plays;
  submitters = (parties (party w r) given r.core).0;
  workers = (parties (party w r) given r.core).1;
}

pub flush-goes : (jobs : List Job) (w : ℕ) (r : Replaying) (f : FrontState Job Done) → Plays jobs r f → w < r.core.workers
    → Goes jobs r f (told jobs (command.Flush w) r)
flush-goes jobs w r f plays near =
    let st = plays.stands in
    let m : ManagerState = manager w r in
    let after : ManagerState = (after_flush m).1 in
    subst (Goes jobs r f) (finish-is (λ n. line.Finish w n ∷ []) w (hand w r) (after_flush m).0 (with_manager w after r))
    (flush-ends jobs r f w (first_with (hand w r) (after_flush m).0) after
    (gives jobs (with_manager w after r) f w (after_flush m).0 after (with-manager jobs r f w after st) near (manager-set jobs r f w after st near)
    (flushed-owed m ∙ plays.owes w m (manager-at jobs r f w st near))
    (others-owe r f w after plays.owes)))

-- ---- claim

-- a cell that is found holds a job that is ready
ready-one : (x : Option (Cell Job Done)) (cell : ℕ) (later : Option (ℕ × Job)) (found : ℕ × Job) (P : Type 0) → job_or x cell later ≡ Some found
    → ((job : Job) → x ≡ Some (ready job) → (cell, job) ≡ found → P) → (later ≡ Some found → P) → P
ready-one None cell later found P is here there = there is
ready-one (Some free) cell later found P is here there = there is
ready-one (Some (ready job)) cell later found P is here there = here job refl (same_Some (cell, job) found is)
ready-one (Some (done d)) cell later found P is here there = there is
ready-one (Some (open_by p)) cell later found P is here there = there is
ready-one (Some (hand_of p d)) cell later found P is here there = there is
ready-one (Some (take_by p)) cell later found P is here there = there is

found-ready : (c : CoreState) (cells : List ℕ) (found : ℕ × Job) → first_ready c cells ≡ Some found → cell_in c found.0 ≡ Some (ready found.1)
found-ready c [] found is = absurd (none-some found is)
found-ready c (cell ∷ cells) found is =
    ready-one (cell_in c cell) cell (first_ready c cells) found (cell_in c found.0 ≡ Some (ready found.1)) is
    (λ job has same. subst (λ (e : ℕ × Job). cell_in c e.0 ≡ Some (ready e.1)) same has)
    (found-ready c cells found)

claim-sizes : (c : CoreState) (p cell : ℕ) (job : Job) → Sizes c → Sizes (claimed_by c p cell job)
claim-sizes c p cell job sizes = record {
  cells = length-set c.cells cell _ ∙ sizes.cells;
  hands = length-set c.hands p _ ∙ sizes.hands;
  outs = sizes.outs;
}

-- the claim, and then the finish
claim-ends : (jobs : List Job) (r q : Replaying) (f g : FrontState Job Done) (w cell : ℕ) (job : Job) (given : Option Entry)
    → q.core.submitters ≡ r.core.submitters → q.core.workers ≡ r.core.workers
    → Step result_of r.core.submitters r.core.workers f (claim (party w r) cell) (claimed job) g → slice_get jobs (cell_number r cell) ≡ Some job
    → Ends jobs q g w given
    → Goes jobs r f (line.Claim w (Some (cell_number r cell)) ∷ map (λ n. line.Finish w (Some n)) (option_to_list (finish_of q given)), after_finish w given q)
claim-ends jobs r q f g w cell job None submitters workers step own end = record {
  events = Some (claim (party w r) cell, claimed job) ∷ [];
  to = end.to;
  tells = ((refl, own), tt);
  run = (g, step, end.run);
  plays = end.plays;
  submitters = submitters;
  workers = workers;
}
claim-ends jobs r q f g w cell job (Some e) submitters workers step own end = record {
  events = Some (claim (party w r) cell, claimed job) ∷ (finish-event (party w q) (Some e) ∷ []);
  to = end.to;
  tells = ((refl, own), ((ap (λ (n : ℕ). n + w) submitters, end.results), tt));
  run = (g, step, subst (λ (n : ℕ × ℕ). Run result_of n.0 n.1 g (option_to_list (finish-event (party w q) (Some e))) end.to) (λ t. (submitters t, workers t)) end.run);
  plays = end.plays;
  submitters = submitters;
  workers = workers;
}

claim-found : (jobs : List Job) (w cell : ℕ) (job : Job) (r : Replaying) (f : FrontState Job Done) → Plays jobs r f → w < r.core.workers
    → cell_in r.core cell ≡ Some (ready job) → Goes jobs r f (claim_of w (Some (cell, job)) r)
claim-found jobs w cell job r f plays near is =
    let st = plays.stands in
    let p : ℕ = party w r in
    let here = cell-is jobs r f cell (ready job) st is in
    let step = claims_lead r.core st.sizes (backed jobs r f st) p cell job (omega (arith, near)) here.0 is f st.front in
    let g : FrontState Job Done = step.0 in
    let changes = step.1.3 in
    let m : ManagerState = manager w r in
    let o : Option Done = (after_submit (with_open m job)).0 in
    let after : ManagerState = (after_submit (with_open m job)).1 in
    let q : Replaying = with_claim w cell job after r in
    let kept : KeepsResults f g = results-kept f g cell (hand_of p (result_of job)) changes.cell changes.other_cells
    (λ d has. ap (result_in result_of) here.1 ∙ has) in
    let kept_jobs : KeepsJobs f g = jobs-kept f g cell (hand_of p (result_of job)) changes.cell changes.other_cells (λ j e. cc) in
    let mid : Stands jobs q g = record {
      sizes = claim-sizes r.core p cell job st.sizes;
      front = step.2;
      law = (step_sound result_of r.core.submitters r.core.workers f g (claim p cell) (claimed job) step.1 (sound r.core f st.front st.law)).1;
      manager_count = length-set r.managers w after ∙ st.manager_count;
      number_count = st.number_count;
      jobs_are = λ i j below there. st.jobs_are i j below (kept_jobs i j there);
      results = λ i d below there. st.results i d below (kept i d there);
    } in
    let hand_now : (g.seats p).hand ≡ (f.seats p).hand ++ (cell, result_of job) ∷ [] = ap (λ v. v.hand) changes.party in
    let order : option_to_list o ++ after.owed ≡ map (λ e. e.1) (g.seats p).hand
    = submitted-owed m job ∙ ap (λ (ds : List Done). ds ++ result_of job ∷ []) (plays.owes w m (manager-at jobs r f w st near))
    ∙ sym (ap (map (λ e. e.1)) hand_now ∙ map-append (λ (e : Entry). e.1) (f.seats p).hand ((cell, result_of job) ∷ [])) in
    subst (Goes jobs r f) (finish-is (λ n. line.Claim w (Some (cell_number r cell)) ∷ map (λ k. line.Finish w (Some k)) (option_to_list n)) w (hand w q) o q)
    (claim-ends jobs r q f g w cell job (first_with (hand w q) o) refl refl step.1
    (st.jobs_are cell job here.0 here.1)
    (gives jobs q g w o after mid near (manager-set jobs r f w after st near) order
    (λ v x apart at. others-owe r f w after plays.owes v x apart at
    ∙ ap (λ y. map (λ e. e.1) y.hand) (sym (changes.other_parties (r.core.submitters + v) (λ e. apart (omega (arith, e))))))))

claim-tries : (jobs : List Job) (w : ℕ) (cells : List ℕ) (o : Option (ℕ × Job)) (r : Replaying) (f : FrontState Job Done) → Plays jobs r f → w < r.core.workers
    → first_ready r.core cells ≡ o → Goes jobs r f (claim_of w o r)
claim-tries jobs w cells None r f plays near is = goes-nowhere jobs r f (line.Claim w None) plays tt
claim-tries jobs w cells (Some found) r f plays near is = claim-found jobs w found.0 found.1 r f plays near (found-ready r.core cells found is)

pub claim-goes : (jobs : List Job) (w s : ℕ) (r : Replaying) (f : FrontState Job Done) → Plays jobs r f → w < r.core.workers
    → Goes jobs r f (told jobs (command.Claim w s) r)
claim-goes jobs w s r f plays near =
    let full : Replayed = (line.ClaimFull w ∷ [], r) in
    let tries : Replayed = claim_of w (first_ready r.core (cells_out r.core s)) r in
    dite (ℕ_discrete (length (hand w r)) ring.CELLS)
    (λ same. subst (Goes jobs r f) (sym (if-same (length (hand w r)) ring.CELLS full tries same)) (goes-nowhere jobs r f (line.ClaimFull w) plays tt))
    (λ apart. subst (Goes jobs r f) (sym (if-apart (length (hand w r)) ring.CELLS full tries apart))
    (claim-tries jobs w (cells_out r.core s) (first_ready r.core (cells_out r.core s)) r f plays near refl))
