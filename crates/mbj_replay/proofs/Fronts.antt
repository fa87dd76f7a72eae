-- What the steps of a front do to one hand.
use Rattle.std.proofs.Common.{◌≡◌, ◌≢◌, ◌∙◌, ◌*◌, ◌<◌, ◌++◌, [], ◌∷◌, ap, sym, subst, refl, ℕ, List, Option, None, Some, map, length, option_map, option_to_list, IfSome, arith}
use Rattle.std.specs.Prelude.{slice_get}
use Rattle.mbj_types.specs.Result.{result_of}
use Rattle.mbj_types.specs.declared.job.Job.{Job}
use Rattle.mbj_types.specs.declared.done.Done.{Done}
use Rattle.mbj_core.specs.Cells.{Cell, ready, done, result_in, cell_of}
use Rattle.mbj_core.specs.Parties.{FrontState}
use Rattle.mbj_core.specs.Lawful.{Lawful}
use Rattle.mbj_core.specs.Events.{carried_out, finish}
use Rattle.mbj_core.specs.Runs.{Run}
use Rattle.mbj_core.specs.CoreStates.{CoreState, HasHand, jobs_out, next_cell}
use Rattle.mbj_core.specs.Stands.{StandsFor, Leads}
use Rattle.mbj_core.specs.declared.cells.TheConstants.{SUBMITTER_CELLS}
use Rattle.mbj_core.proofs.Entries.{at_middle}
use mathlib.Core.Logic.{dite}
use native.Mathlib.Decide.{ℕ_discrete}
use Rattle.mbj_replay.specs.Events.{Answered}
use Rattle.mbj_replay.specs.Inside.Giving.{core_after}

abbrev pub Entry : Type 0
Entry = ℕ × Done

-- if the cells and the results of a hand, from which one may have been taken, are those of these entries, the one
-- that was taken is the first of them
pub first-taken : (given : Option Entry) (cells : List ℕ) (results : List Done) (hand : List Entry)
    → option_to_list (option_map (λ t. t.0) given) ++ cells ≡ map (λ e. e.0) hand
    → option_to_list (option_map (λ t. t.1) given) ++ results ≡ map (λ e. e.1) hand
    → (rest : List Entry) × (hand ≡ option_to_list given ++ rest) × (cells ≡ map (λ e. e.0) rest) × (results ≡ map (λ e. e.1) rest)
first-taken None cells results hand c d = (hand, refl, c, d)
first-taken (Some g) cells results [] c d = cc
first-taken (Some g) cells results (e ∷ hand) c d =
    let cell : g.0 ≡ e.0 = cc in
    let result : g.1 ≡ e.1 = cc in
    let same : e ≡ g = sym (ap (λ (n : ℕ). (n, g.1)) cell ∙ ap (λ (x : Done). (e.0, x)) result) in
    (hand, ap (λ (x : Entry). x ∷ hand) same, cc, cc)

-- no jobs are new in the cells
abbrev pub KeepsJobs : FrontState Job Done → FrontState Job Done → Type 0
KeepsJobs g h = (i : ℕ) (job : Job) → h.cells i ≡ ready job → g.cells i ≡ ready job

-- one cell changes, which has no job then
pub jobs-kept : (g h : FrontState Job Done) (cell : ℕ) (x : Cell Job Done) → h.cells cell ≡ x → ((i : ℕ) → i ≢ cell → h.cells i ≡ g.cells i)
    → ((job : Job) → x ≢ ready job) → KeepsJobs g h
jobs-kept g h cell x is others none i job there = dite (ℕ_discrete i cell)
    (λ same. absurd (none job (sym is ∙ ap h.cells (sym same) ∙ there)))
    (λ apart. sym (others i apart) ∙ there)

-- the other parties keep their hands
abbrev pub KeepsHands : ℕ → FrontState Job Done → FrontState Job Done → Type 0
KeepsHands p g h = (q : ℕ) → q ≢ p → (h.seats q).hand ≡ (g.seats q).hand

-- no results are new in the cells
abbrev pub KeepsResults : FrontState Job Done → FrontState Job Done → Type 0
KeepsResults g h = (i : ℕ) (d : Done) → result_in result_of (h.cells i) ≡ Some d → result_in result_of (g.cells i) ≡ Some d

-- one cell changes, whose new result was there before
pub results-kept : (g h : FrontState Job Done) (cell : ℕ) (x : Cell Job Done) → h.cells cell ≡ x → ((i : ℕ) → i ≢ cell → h.cells i ≡ g.cells i)
    → ((d : Done) → result_in result_of x ≡ Some d → result_in result_of (g.cells cell) ≡ Some d) → KeepsResults g h
results-kept g h cell x is others was i d has = dite (ℕ_discrete i cell)
    (λ same. subst (λ (k : ℕ). result_in result_of (g.cells k) ≡ Some d) (sym same)
    (was d (ap (result_in result_of) (sym is ∙ ap h.cells (sym same)) ∙ has)))
    (λ apart. ap (result_in result_of) (sym (others i apart)) ∙ has)

-- the finish of an entry that was given back
abbrev pub finish-event : ℕ → Option Entry → Option Answered
finish-event p given = option_map (λ e. (finish p e.0 e.1, carried_out)) given

-- the party's first entry is finished, if there is one to finish
pub record Finishes (core new : CoreState) (p : ℕ) (given : Option Entry) (rest : List Entry) (g h : FrontState Job Done) : Type 0 where
  pub front : StandsFor new h
  pub run : Run result_of core.submitters core.workers g (option_to_list (finish-event p given)) h
  pub results : KeepsResults g h
  pub hand : (h.seats p).hand ≡ rest
  pub hands : KeepsHands p g h
  pub jobs : KeepsJobs g h

-- the first entry of a hand is in its cell
pub first-held : (core : CoreState) (g : FrontState Job Done) (p : ℕ) (given : Option Entry) (rest : List Entry)
    → StandsFor core g → Lawful result_of core.submitters core.workers g → (g.seats p).hand ≡ option_to_list given ++ rest
    → IfSome given (λ e. (e.0 < SUBMITTER_CELLS * core.submitters) × HasHand core e.0 p e.1)
first-held core g p None rest stands law is = tt
first-held core g p (Some e) rest stands law is =
    let at : slice_get (g.seats p).hand 0 ≡ Some e = ap (λ (l : List Entry). slice_get l 0) is in
    let held = law.in_hand p 0 e.0 e.1 at in
    (held.0, stands.each_cell e.0 held.0 ∙ ap Some held.1)

-- an entry that is first and leaves was the first
rest-left : (e : Entry) (hand rest before after left : List Entry) → hand ≡ e ∷ rest → hand ≡ before ++ e ∷ after → left ≡ before ++ after
    → 0 ≡ length before → left ≡ rest
rest-left e hand rest [] after left first cut leaves none = let same : e ∷ rest ≡ e ∷ after = sym first ∙ cut in leaves ∙ cc
rest-left e hand rest (b ∷ before) after left first cut leaves none = let bad : ⊥ = omega (arith, none) in absurd bad

pub first-finishes : (core new : CoreState) (g : FrontState Job Done) (p : ℕ) (given : Option Entry) (rest : List Entry)
    → StandsFor core g → Lawful result_of core.submitters core.workers g → (g.seats p).hand ≡ option_to_list given ++ rest
    → new ≡ core_after p given core → IfSome given (λ e. Leads core (finish p e.0 e.1) carried_out new)
    → (h : FrontState Job Done) × Finishes core new p given rest g h
first-finishes core new g p None rest stands law is same leads = (
  g,
  record {
    front = subst (λ (c : CoreState). StandsFor c g) (sym same) stands;
    run = refl;
    results = λ i d has. has;
    hand = is;
    hands = λ q other. refl;
    jobs = λ i job there. there;
  },
)
first-finishes core new g p (Some e) rest stands law is same leads =
    let step = leads g stands in
    let h : FrontState Job Done = step.0 in
    let left = step.1.1.0 in
    let leaves = step.1.1.1 in
    let changes = step.1.1.2 in
    let first : slice_get (g.seats p).hand 0 ≡ Some e = ap (λ (l : List Entry). slice_get l 0) is in
    let there : slice_get (g.seats p).hand (length leaves.0) ≡ Some e
    = ap (λ (l : List Entry). slice_get l (length leaves.0)) leaves.2 ∙ at_middle leaves.0 leaves.1 e in
    let none : 0 ≡ length leaves.0 = law.once p 0 (length leaves.0) e.0 e.1 e.1 first there in (
      h,
      record {
        front = step.2;
        run = (h, step.1, refl);
        results = results-kept g h e.0 (done e.1) changes.cell changes.other_cells
            (λ d has. ap (result_in result_of) (law.in_hand p 0 e.0 e.1 first).1 ∙ has);
        hand = ap (λ v. v.hand) changes.party ∙ rest-left e (g.seats p).hand rest leaves.0 leaves.1 left is leaves.2 leaves.3 none;
        hands = λ q other. ap (λ v. v.hand) (changes.other_parties q other);
        jobs = jobs-kept g h e.0 (done e.1) changes.cell changes.other_cells (λ job e. cc);
      },
    )

pub held-at : (core : CoreState) (p : ℕ) (given : Option Entry) → IfSome given (λ e. (e.0 < SUBMITTER_CELLS * core.submitters) × HasHand core e.0 p e.1)
    → IfSome given (λ e. HasHand core e.0 p e.1)
held-at core p None held = tt
held-at core p (Some e) held = held.1

-- the cell of a submitter's next job
pub next-is : (c : CoreState) (f : FrontState Job Done) (s : ℕ) → StandsFor c f → s < c.submitters → next_cell c s ≡ cell_of s (length (f.seats s).due)
next-is c f s stands below =
    let a = stands.each_out s below in
    let b = stands.each_first s below in
    let n : ℕ = (jobs_out c s).first in
    omega arith

-- its cell is one of the replay's
pub within-cells : (core : CoreState) (p : ℕ) (given : Option Entry) (count : ℕ) (cell : Option ℕ) → count ≡ SUBMITTER_CELLS * core.submitters
    → cell ≡ option_map (λ e. e.0) given → IfSome given (λ e. (e.0 < SUBMITTER_CELLS * core.submitters) × HasHand core e.0 p e.1)
    → IfSome cell (λ n. n < count)
within-cells core p None count cell is from held = subst (λ (o : Option ℕ). IfSome o (λ n. n < count)) (sym from) tt
within-cells core p (Some e) count cell is from held =
    let below = held.0 in
    subst (λ (o : Option ℕ). IfSome o (λ n. n < count)) (sym from) (omega (arith, is, below))
