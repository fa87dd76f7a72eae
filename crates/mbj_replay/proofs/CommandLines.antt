-- What a command prints, from what its calls did.
use Rattle.std.proofs.Common.{◌≡◌, ◌≢◌, cond, eq-eqb, ◌∙◌, ◌+◌, ◌++◌, [], ◌∷◌, ap, sym, refl, subst, ℕ, suc, All, append_assoc, Result, Ok, Err, IfOk, Vec, Global, List, Bool, true, false, IsTrue, ◌↔◌, Option, None, Some, map, length, set, slice_index, slice_index_or, option_map, option_to_list, arith, if◌then◌else◌, ◌==◌}
use Rattle.std.specs.Prelude.{slice_get}
use Rattle.std.proofs.lemmas.List.{map-set}
use Rattle.std.proofs.lemmas.Option.{get_or_from_slice_get, slice_get-map}
use Rattle.std.proofs.Math.Seq.{map-set_same}
use Rattle.mbj_types.specs.declared.job.Job.{Job}
use Rattle.mbj_core.specs.CoreStates.{CoreState, claimed_by, next_cell, out_of, posted}
use Rattle.mbj_core.specs.declared.cells.TheConstants.{SUBMITTER_CELLS}
use Rattle.mbj_ring.specs.declared.ring.TheConstants as ring
use Rattle.mbj_text.specs.declared.command.Cmd.{Cmd}
use Rattle.mbj_text.specs.declared.command.Cmd.TheVariants as command
use Rattle.mbj_types.specs.declared.done.Done.{Done}
use Rattle.std.specs.declared.alloc.AllocError.{AllocError}
use Rattle.mbj_manager.specs.State.{ManagerState, after_flush, new_manager, after_submit, with_open}
use Rattle.mbj_replay.specs.Replay.{Replaying, Replayed, replayed, cells_out, claim_of, finish_told, first_ready, hand, manager, cell_number, party, post_of, told, with_post}
use Rattle.mbj_replay.specs.Inside.Giving.{core_after, first_with}
use Rattle.mbj_replay.specs.Inside.State.{state_of}
use Rattle.mbj_replay.specs.declared.replayer.Posted.{Posted}
use Rattle.mbj_replay.specs.declared.replayer.Replayer.{Replayer}
use Rattle.mbj_replay.specs.declared.line.ReplayLine.{ReplayLine}
use Rattle.mbj_replay.specs.declared.line.ReplayLine.TheVariants as line
use Rattle.mbj_replay.specs.declared.worker.Worker.{Worker}
use Rattle.mbj_replay.proofs.Fronts.{Entry}

pub if-apart : {T : Type 0} (n m : ℕ) (a b : T) → n ≢ m → (if n == m then a else b) ≡ b
if-apart n m a b apart = grind arith

pub if-same : {T : Type 0} (n m : ℕ) (a b : T) → n ≡ m → (if n == m then a else b) ≡ a
if-same n m a b same = ap (λ t. cond t a b) (eq-eqb n m same)

-- ---- the states that a worker's command goes through

abbrev pub with_manager : ℕ → ManagerState → Replaying → Replaying
with_manager w after r = record r { managers = set r.managers w after }

abbrev pub with_claim : ℕ → ℕ → Job → ManagerState → Replaying → Replaying
with_claim w cell job after r = record r { core = claimed_by r.core (party w r) cell job; managers = set r.managers w after }

abbrev pub after_finish : ℕ → Option Entry → Replaying → Replaying
after_finish w given r = record r { core = core_after (party w r) given r.core }

-- the number of the job that is finished
abbrev pub finish_of : Replaying → Option Entry → Option ℕ
finish_of r given = option_map (λ g. cell_number r g.0) given

-- what a manager gave back is finished in the first cell of the hand
pub finish-is : (lines : Option ℕ → List ReplayLine) (w : ℕ) (cells : List ℕ) (o : Option Done) (r : Replaying)
    → ◌≡◌ {A = Replayed} (lines (finish_of r (first_with cells o)), after_finish w (first_with cells o) r) (finish_told lines w cells o r)
finish-is lines w [] None r = refl
finish-is lines w [] (Some d) r = refl
finish-is lines w (cell ∷ cells) None r = refl
finish-is lines w (cell ∷ cells) (Some d) r = refl

-- the manager of a worker
pub manager-is : (workers : List Worker) (w : ℕ) (x : Worker) → slice_get workers w ≡ Some x
    → slice_index_or (map (λ y. y.manager) workers) w new_manager ≡ x.manager
manager-is workers w x at =
    get_or_from_slice_get (map (λ y. y.manager) workers) w x.manager new_manager
    (slice_get-map (λ (y : Worker). y.manager) workers w ∙ ap (option_map (λ (y : Worker). y.manager)) at)

told-is : (a b : List ReplayLine) (q r : Replaying) → a ≡ b → q ≡ r → ◌≡◌ {A = Replayed} (a, q) (b, r)
told-is a b q r lines state = ap (λ (l : List ReplayLine). (l, q)) lines ∙ ap (λ (u : Replaying). (b, u)) state

-- a flush, and the finish that it leads to
pub flush-is : (jobs : List Job) (w : ℕ) (r q : Replaying) (x : ManagerState) (cells : List ℕ) (given : Option Entry) (job : Option ℕ)
    → manager w r ≡ x → hand w r ≡ cells → given ≡ first_with cells (after_flush x).0
    → q ≡ after_finish w given (with_manager w (after_flush x).1 r) → job ≡ finish_of r given
    → ◌≡◌ {A = Replayed} (line.Finish w job ∷ [], q) (told jobs (command.Flush w) r)
flush-is jobs w r q x cells given job is_manager is_hand is_given is_state is_job =
    let found : given ≡ first_with (hand w r) (after_flush (manager w r)).0
    = is_given ∙ ap (λ (cs : List ℕ). first_with cs (after_flush x).0) (sym is_hand) ∙ ap (λ (m : ManagerState). first_with (hand w r) (after_flush m).0) (sym is_manager) in
    let state : q ≡ after_finish w (first_with (hand w r) (after_flush (manager w r)).0) (with_manager w (after_flush (manager w r)).1 r)
    = is_state ∙ ap (λ (m : ManagerState). after_finish w given (with_manager w (after_flush m).1 r)) (sym is_manager)
    ∙ ap (λ (g : Option Entry). after_finish w g (with_manager w (after_flush (manager w r)).1 r)) found in
    let number : job ≡ finish_of r (first_with (hand w r) (after_flush (manager w r)).0) = is_job ∙ ap (finish_of r) found in
    told-is (line.Finish w job ∷ []) (line.Finish w (finish_of r (first_with (hand w r) (after_flush (manager w r)).0)) ∷ []) q _
    (ap (λ (n : Option ℕ). line.Finish w n ∷ []) number) state
    ∙ finish-is (λ n. line.Finish w n ∷ []) w (hand w r) (after_flush (manager w r)).0 (with_manager w (after_flush (manager w r)).1 r)

-- a claim, and the finish that it leads to
pub claim-is : (jobs : List Job) (w s cell : ℕ) (job : Job) (r q : Replaying) (x : ManagerState) (full cells : List ℕ) (given : Option Entry) (number : Option ℕ) (finishes : List ReplayLine)
    → hand w r ≡ full → length full ≢ ring.CELLS → first_ready r.core (cells_out r.core s) ≡ Some (cell, job)
    → manager w r ≡ x → hand w (with_claim w cell job (after_submit (with_open x job)).1 r) ≡ cells
    → given ≡ first_with cells (after_submit (with_open x job)).0
    → q ≡ after_finish w given (with_claim w cell job (after_submit (with_open x job)).1 r)
    → number ≡ Some (cell_number r cell) → finishes ≡ map (λ n. line.Finish w (Some n)) (option_to_list (finish_of r given))
    → ◌≡◌ {A = Replayed} (line.Claim w number ∷ finishes, q) (told jobs (command.Claim w s) r)
claim-is jobs w s cell job r q x full cells given number finishes is_full is_room is_ready is_manager is_hand is_given is_state is_number are =
    let after : ManagerState → Replaying = λ m. with_claim w cell job (after_submit (with_open m job)).1 r in
    let back : ManagerState → Option Entry = λ m. first_with (hand w (after m)) (after_submit (with_open m job)).0 in
    let found : given ≡ back (manager w r)
    = is_given ∙ ap (λ (cs : List ℕ). first_with cs (after_submit (with_open x job)).0) (sym is_hand) ∙ ap back (sym is_manager) in
    let state : q ≡ after_finish w (back (manager w r)) (after (manager w r))
    = is_state ∙ ap (λ (m : ManagerState). after_finish w given (after m)) (sym is_manager)
    ∙ ap (λ (g : Option Entry). after_finish w g (after (manager w r))) found in
    let lines : ◌≡◌ {A = List ReplayLine} (line.Claim w number ∷ finishes)
    (line.Claim w (Some (cell_number r cell)) ∷ map (λ n. line.Finish w (Some n)) (option_to_list (finish_of r (back (manager w r)))))
    = ap (λ (n : Option ℕ). line.Claim w n ∷ finishes) is_number
    ∙ ap (λ (ls : List ReplayLine). line.Claim w (Some (cell_number r cell)) ∷ ls)
    (are ∙ ap (λ (g : Option Entry). map (λ n. line.Finish w (Some n)) (option_to_list (finish_of r g))) found) in
    told-is (line.Claim w number ∷ finishes) _ q _ lines state
    ∙ finish-is (λ n. line.Claim w (Some (cell_number r cell)) ∷ map (λ m. line.Finish w (Some m)) (option_to_list n)) w
    (hand w (after (manager w r))) (after_submit (with_open (manager w r) job)).0 (after (manager w r))
    ∙ ap (λ f. claim_of w f r) (sym is_ready)
    ∙ sym (if-apart (length (hand w r)) ring.CELLS (line.ClaimFull w ∷ [], r) (claim_of w (first_ready r.core (cells_out r.core s)) r)
    (λ e. is_room (ap length (sym is_full) ∙ e)))

-- if the submitter has no job that is ready
pub no-claim-is : (jobs : List Job) (w s : ℕ) (r q : Replaying) (full : List ℕ) → hand w r ≡ full → length full ≢ ring.CELLS → first_ready r.core (cells_out r.core s) ≡ None
    → q ≡ r → ◌≡◌ {A = Replayed} (line.Claim w None ∷ [], q) (told jobs (command.Claim w s) r)
no-claim-is jobs w s r q full is_full is_room is_none same =
    ap (λ (u : Replaying). (line.Claim w None ∷ [], u)) same
    ∙ ap (λ f. claim_of w f r) (sym is_none)
    ∙ sym (if-apart (length (hand w r)) ring.CELLS (line.ClaimFull w ∷ [], r) (claim_of w (first_ready r.core (cells_out r.core s)) r)
    (λ e. is_room (ap length (sym is_full) ∙ e)))

-- a post
pub post-is : (jobs : List Job) (s n : ℕ) (job : Job) (r q : Replaying) → n ≡ slice_index r.nexts s → slice_get jobs n ≡ Some job
    → out_of r.core s ≢ SUBMITTER_CELLS → q ≡ with_post s n job r
    → ◌≡◌ {A = Replayed} (line.Post s n ∷ [], q) (told jobs (command.Post s) r)
post-is jobs s n job r q next is_job room state =
    ap (λ (u : Replaying). (line.Post s n ∷ [], u)) state
    ∙ sym (if-apart (out_of r.core s) SUBMITTER_CELLS (line.PostFull s ∷ [], r) (line.Post s n ∷ [], with_post s n job r) room)
    ∙ ap (λ o. post_of s n o r) (sym is_job)
    ∙ ap (λ (m : ℕ). post_of s m (slice_get jobs m) r) next

-- the numbers stay if a cell's copy is taken
pub numbers-stay : (posted : List Posted) (cell : ℕ) (z taken : Posted) → slice_get posted cell ≡ Some z → taken.number ≡ z.number
    → map (λ x. x.number) (set posted cell taken) ≡ map (λ x. x.number) posted
numbers-stay posted cell z taken at same =
    map-set_same (λ (x : Posted). x.number) posted cell taken z (same ∙ ap (λ (x : Posted). x.number) (sym (get_or_from_slice_get posted cell z z at)))

-- the numbers of what is finished
pub finish-number : (r : Replaying) (given : Option Entry) (cell : Option ℕ) → cell ≡ option_map (λ g. g.0) given → option_map (cell_number r) cell ≡ finish_of r given
finish-number r None cell is = ap (option_map (cell_number r)) is
finish-number r (Some g) cell is = ap (option_map (cell_number r)) is

replaying : CoreState → List ManagerState → List ℕ → List ℕ → Replaying
replaying core managers nexts numbers = record { core = core; managers = managers; nexts = nexts; numbers = numbers }

-- the state after a flush
pub flush-state : (r : Replayer) (new : CoreState) (w p : ℕ) (given : Option Entry) (y : Worker) (after : ManagerState) → p ≡ r.core.submitters + w
    → new ≡ core_after p given r.core → y.manager ≡ after
    → record { core = new; managers = map (λ x. x.manager) (set r.workers.items w y); nexts = r.nexts.items; numbers = map (λ x. x.number) r.posted.items }
    ≡ after_finish w given (with_manager w after (state_of r))
unfolding replaying
flush-state r new w p given y after party same is =
    let managers : map (λ (x : Worker). x.manager) (set r.workers.items w y) ≡ set (map (λ (x : Worker). x.manager) r.workers.items) w after
    = map-set (λ (x : Worker). x.manager) r.workers.items w y ∙ ap (set (map (λ (x : Worker). x.manager) r.workers.items) w) is in
    ap (λ (c : CoreState). replaying c (map (λ (x : Worker). x.manager) (set r.workers.items w y)) r.nexts.items (map (λ (x : Posted). x.number) r.posted.items))
    (same ∙ ap (λ (q : ℕ). core_after q given r.core) party)
    ∙ ap (λ (ms : List ManagerState). replaying (core_after (r.core.submitters + w) given r.core) ms r.nexts.items (map (λ (x : Posted). x.number) r.posted.items)) managers

-- the state after a claim
pub claim-state : (r : Replayer) (mid new : CoreState) (w p cell : ℕ) (job : Job) (given : Option Entry) (y : Worker) (z taken : Posted) (after : ManagerState)
    → p ≡ r.core.submitters + w → mid ≡ claimed_by r.core p cell job → new ≡ core_after p given mid → y.manager ≡ after
    → slice_get r.posted.items cell ≡ Some z → taken.number ≡ z.number
    → record { core = new; managers = map (λ x. x.manager) (set r.workers.items w y); nexts = r.nexts.items; numbers = map (λ x. x.number) (set r.posted.items cell taken) }
    ≡ after_finish w given (with_claim w cell job after (state_of r))
unfolding replaying
claim-state r mid new w p cell job given y z taken after party claimed same is at number =
    let managers : map (λ (x : Worker). x.manager) (set r.workers.items w y) ≡ set (map (λ (x : Worker). x.manager) r.workers.items) w after
    = map-set (λ (x : Worker). x.manager) r.workers.items w y ∙ ap (set (map (λ (x : Worker). x.manager) r.workers.items) w) is in
    let core : new ≡ core_after (r.core.submitters + w) given (claimed_by r.core (r.core.submitters + w) cell job)
    = same ∙ ap (core_after p given) claimed ∙ ap (λ (q : ℕ). core_after q given (claimed_by r.core q cell job)) party in
    ap (λ (c : CoreState). replaying c (map (λ (x : Worker). x.manager) (set r.workers.items w y)) r.nexts.items (map (λ (x : Posted). x.number) (set r.posted.items cell taken))) core
    ∙ ap (λ (ms : List ManagerState). replaying (core_after (r.core.submitters + w) given (claimed_by r.core (r.core.submitters + w) cell job)) ms r.nexts.items (map (λ (x : Posted). x.number) (set r.posted.items cell taken))) managers
    ∙ ap (λ (ns : List ℕ). replaying (core_after (r.core.submitters + w) given (claimed_by r.core (r.core.submitters + w) cell job)) (set (map (λ (x : Worker). x.manager) r.workers.items) w after) r.nexts.items ns)
    (numbers-stay r.posted.items cell z taken at number)

-- the state after a post
pub post-state : (r : Replayer) (new : CoreState) (s n step cell : ℕ) (job : Job) (x : Posted) → new ≡ posted r.core s job → step ≡ r.core.submitters
    → cell ≡ next_cell r.core s → x.number ≡ n
    → record { core = new; managers = map (λ y. y.manager) r.workers.items; nexts = set r.nexts.items s (n + step); numbers = map (λ y. y.number) (set r.posted.items cell x) }
    ≡ with_post s n job (state_of r)
unfolding replaying
post-state r new s n step cell job x same far at is =
    let numbers : map (λ (y : Posted). y.number) (set r.posted.items cell x) ≡ set (map (λ (y : Posted). y.number) r.posted.items) (next_cell r.core s) n
    = map-set (λ (y : Posted). y.number) r.posted.items cell x
    ∙ ap (set (map (λ (y : Posted). y.number) r.posted.items) cell) is
    ∙ ap (λ (i : ℕ). set (map (λ (y : Posted). y.number) r.posted.items) i n) at in
    ap (λ (c : CoreState). replaying c (map (λ (y : Worker). y.manager) r.workers.items) (set r.nexts.items s (n + step)) (map (λ (y : Posted). y.number) (set r.posted.items cell x))) same
    ∙ ap (λ (k : ℕ). replaying (posted r.core s job) (map (λ (y : Worker). y.manager) r.workers.items) (set r.nexts.items s (n + k)) (map (λ (y : Posted). y.number) (set r.posted.items cell x))) far
    ∙ ap (λ (ns : List ℕ). replaying (posted r.core s job) (map (λ (y : Worker). y.manager) r.workers.items) (set r.nexts.items s (n + r.core.submitters)) ns) numbers

pub refuted : (b : Bool) (P : Type 0) → (IsTrue b ↔ P) → b ≡ false → ¬ P
refuted true P decides is p = let bad : true ≡ false = is in cc
refuted false P decides is p = let bad : false ≡ true = decides.1 p in cc

-- the lines of commands over the jobs and the state that a replay begins with
pub answered-by : (result : Result (Vec ReplayLine Global) AllocError) (own jobs : List Job) (commands : List Cmd) (r q : Replaying) → own ≡ jobs → r ≡ q
    → IfOk result (λ lines. lines.items ≡ (replayed own commands r).0) → IfOk result (λ lines. lines.items ≡ (replayed jobs commands q).0)
answered-by (Err e) own jobs commands r q same begun told = told
answered-by (Ok lines) own jobs commands r q same begun told =
    told ∙ ap (λ (js : List Job). (replayed js commands r).0) same ∙ ap (λ (u : Replaying). (replayed jobs commands u).0) begun

-- one command more is told
pub one-told : (jobs : List Job) (commands rest : List Cmd) (command : Cmd) (before after lines all : List ReplayLine) (r q : Replaying)
    → commands ≡ command ∷ rest → ◌≡◌ {A = Replayed} (lines, q) (told jobs command r) → after ≡ before ++ lines
    → before ++ (replayed jobs commands r).0 ≡ all → after ++ (replayed jobs rest q).0 ≡ all
one-told jobs commands rest command before after lines all r q is does more told_all =
    let first : lines ≡ (told jobs command r).0 = ap (λ (t : Replayed). t.0) does in
    let state : q ≡ (told jobs command r).1 = ap (λ (t : Replayed). t.1) does in
    ap (λ (l : List ReplayLine). l ++ (replayed jobs rest q).0) more
    ∙ append_assoc before lines (replayed jobs rest q).0
    ∙ ap (λ (u : Replaying). before ++ (lines ++ (replayed jobs rest u).0)) state
    ∙ ap (λ (l : List ReplayLine). before ++ (l ++ (replayed jobs rest (told jobs command r).1).0)) first
    ∙ ap (λ (cs : List Cmd). before ++ (replayed jobs cs r).0) (sym is)
    ∙ told_all

-- of all commands, the first and those behind it
pub all-first : (P : Cmd → Type 0) (commands rest : List Cmd) (command : Cmd) → commands ≡ command ∷ rest → All P commands → P command
all-first P commands rest command is all = let each : All P (command ∷ rest) = subst (All P) is all in each 0 command (omega arith)

pub all-rest : (P : Cmd → Type 0) (commands rest : List Cmd) (command : Cmd) → commands ≡ command ∷ rest → All P commands → All P rest
all-rest P commands rest command is all = let each : All P (command ∷ rest) = subst (All P) is all in λ k d below. each (suc k) d (omega (arith, below))
