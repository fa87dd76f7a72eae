-- A submitter's command leads from a front that the core stands for to another by the event that its line tells of.
use Rattle.std.proofs.Common.{◌≡◌, ◌≢◌, ◌∙◌, ◌+◌, ◌*◌, ◌<◌, [], ◌∷◌, ap, sym, subst, refl, ℕ, List, Option, None, Some, map, length, set, slice_index, option_map, ◌⊎◌, inl, inr, arith, ◌==◌, if◌then◌else◌, length-set, get_or-set_same, get_or-set_other}
use Rattle.std.specs.Prelude.{slice_get}
use Rattle.std.proofs.lemmas.Option.{none-some}
use mathlib.Core.Logic.{dite}
use native.Mathlib.Decide.{ℕ_discrete}
use Rattle.mbj_types.specs.Result.{result_of}
use Rattle.mbj_types.specs.declared.job.Job.{Job}
use Rattle.mbj_types.specs.declared.done.Done.{Done}
use Rattle.mbj_core.specs.Cells.{Cell, free, ready, done, result_in, cell_of}
use Rattle.mbj_core.specs.Parties.{FrontState}
use Rattle.mbj_core.specs.Events.{post, collect, carried_out, returned, collected, nothing}
use Rattle.mbj_core.specs.CoreStates.{CoreState, cell_in, first_cell, with_result_collected, next_cell, out_of, posted}
use Rattle.mbj_core.specs.declared.cells.TheConstants.{SUBMITTER_CELLS}
use Rattle.mbj_core.proofs.Calls.{Sizes, posts_lead, collects_lead, vain_collects_lead}
use Rattle.mbj_core.proofs.Steps.{step_sound}
use Rattle.mbj_replay.specs.Events.{ResultIs}
use Rattle.mbj_replay.specs.Replay.{Replaying, collect_of, cell_number, post_of, with_post}
use Rattle.mbj_replay.specs.declared.line.ReplayLine.TheVariants as line
use Rattle.mbj_replay.proofs.CommandLines.{if-apart, if-same}
use Rattle.mbj_replay.proofs.Fronts.{KeepsResults, KeepsJobs, jobs-kept, next-is, results-kept}
use Rattle.mbj_replay.proofs.Playing.{Goes, Plays, backed, cell-is, goes-nowhere, out-within, sound}

-- ---- post

post-sizes : (c : CoreState) (s : ℕ) (job : Job) → Sizes c → Sizes (posted c s job)
post-sizes c s job sizes = record {
  cells = length-set c.cells (next_cell c s) (ready job) ∙ sizes.cells;
  hands = sizes.hands;
  outs = length-set c.outs s _ ∙ sizes.outs;
}

-- what holds of the new number of a cell, and of the others, holds of each
set-number : (numbers : List ℕ) (cell n count : ℕ) → length numbers ≡ count → (i : ℕ) → i < count → (P : ℕ → Type 0)
    → (i ≡ cell → P n) → (i ≢ cell → P (slice_index numbers i)) → P (slice_index (set numbers cell n) i)
set-number numbers cell n count size i within P here other = dite (ℕ_discrete i cell)
    (λ same. subst P (sym (ap (slice_index (set numbers cell n)) same ∙ get_or-set_same numbers cell n 0 (omega (arith, size, within, same)))) (here same))
    (λ apart. subst P (sym (get_or-set_other numbers cell i n 0 apart)) (other apart))

post-room : (jobs : List Job) (s n : ℕ) (job : Job) (r : Replaying) (f : FrontState Job Done) → Plays jobs r f → s < r.core.submitters
    → slice_get jobs n ≡ Some job → out_of r.core s < SUBMITTER_CELLS → Goes jobs r f (line.Post s n ∷ [], with_post s n job r)
post-room jobs s n job r f plays below is room =
    let st = plays.stands in
    let step = posts_lead r.core st.sizes (backed jobs r f st) s job below room f st.front in
    let g : FrontState Job Done = step.0 in
    let changes = step.1.2 in
    let cell : ℕ = next_cell r.core s in
    let at : cell ≡ cell_of s (length (f.seats s).due) = next-is r.core f s st.front below in
    let has : g.cells cell ≡ ready job = ap g.cells at ∙ changes.cell in
    let elsewhere : (i : ℕ) → i ≢ cell → g.cells i ≡ f.cells i = λ i apart. changes.other_cells i (λ e. apart (e ∙ sym at)) in
    let numbered : (i : ℕ) → i < SUBMITTER_CELLS * r.core.submitters → (P : ℕ → Type 0) → (i ≡ cell → P n) → (i ≢ cell → P (cell_number r i)) → P (slice_index (set r.numbers cell n) i)
    = set-number r.numbers cell n (SUBMITTER_CELLS * r.core.submitters) st.number_count in
    record {
      events = Some (post s job, carried_out) ∷ [];
      to = g;
      tells = ((refl, is), tt);
      run = (g, step.1, refl);
      plays = record {
        stands = record {
          sizes = post-sizes r.core s job st.sizes;
          front = step.2;
          law = (step_sound result_of r.core.submitters r.core.workers f g (post s job) carried_out step.1 (sound r.core f st.front st.law)).1;
          manager_count = st.manager_count;
          number_count = length-set r.numbers cell n ∙ st.number_count;
          jobs_are = λ i other within there. numbered i within (λ k. slice_get jobs k ≡ Some other)
              (λ same. is ∙ ap Some (let one : ready job ≡ ready other = sym has ∙ ap g.cells (sym same) ∙ there in cc))
              (λ apart. st.jobs_are i other within (sym (elsewhere i apart) ∙ there));
          results = λ i d within there. numbered i within (λ k. ResultIs jobs k d)
              (λ same. ap (option_map result_of) is ∙ sym (ap (result_in result_of) (ap g.cells same ∙ has)) ∙ there)
              (λ apart. st.results i d within (ap (result_in result_of) (sym (elsewhere i apart)) ∙ there));
        };
        owes = λ w m there. plays.owes w m there
            ∙ ap (λ v. map (λ e. e.1) v.hand) (sym (changes.other_parties (r.core.submitters + w) (λ e. omega (arith, e, below))));
      };
      submitters = refl;
      workers = refl;
    }

post-full : (jobs : List Job) (s : ℕ) (job : Job) (r : Replaying) (f : FrontState Job Done) → Plays jobs r f → s < r.core.submitters
    → out_of r.core s ≡ SUBMITTER_CELLS → Goes jobs r f (line.PostFull s ∷ [], r)
post-full jobs s job r f plays below full =
    let out = plays.stands.front.each_out s below in
    record {
      events = Some (post s job, returned job) ∷ [];
      to = f;
      tells = (refl, tt);
      run = (f, (below, omega (arith, out, full), refl, refl), refl);
      plays = plays;
      submitters = refl;
      workers = refl;
    }

pub post-goes : (jobs : List Job) (s n : ℕ) (o : Option Job) (r : Replaying) (f : FrontState Job Done) → Plays jobs r f → s < r.core.submitters
    → slice_get jobs n ≡ o → Goes jobs r f (post_of s n o r)
post-goes jobs s n None r f plays below is = goes-nowhere jobs r f (line.PostEnd s) plays tt
post-goes jobs s n (Some job) r f plays below is = dite (ℕ_discrete (out_of r.core s) SUBMITTER_CELLS)
    (λ full. subst (Goes jobs r f) (sym (if-same (out_of r.core s) SUBMITTER_CELLS (line.PostFull s ∷ [], r) (line.Post s n ∷ [], with_post s n job r) full))
    (post-full jobs s job r f plays below full))
    (λ apart. let most = out-within jobs r f s plays.stands below in
    subst (Goes jobs r f) (sym (if-apart (out_of r.core s) SUBMITTER_CELLS (line.PostFull s ∷ [], r) (line.Post s n ∷ [], with_post s n job r) apart))
    (post-room jobs s n job r f plays below is (omega (arith, most, apart))))

-- ---- collect

collect-sizes : (c : CoreState) (s : ℕ) → Sizes c → Sizes (with_result_collected c s)
collect-sizes c s sizes = record {
  cells = length-set c.cells (first_cell c s) free ∙ sizes.cells;
  hands = sizes.hands;
  outs = length-set c.outs s _ ∙ sizes.outs;
}

-- what the cell of the submitter's earliest job that is out holds, if one is out
abbrev pub earliest_out : CoreState → ℕ → Option (Cell Job Done)
earliest_out c s = if out_of c s == 0 then None else cell_in c (first_cell c s)

-- if none is out there is no earliest one
earliest-none : (c : CoreState) (s : ℕ) → out_of c s ≡ 0 → earliest_out c s ≡ None
earliest-none c s none = if-same (out_of c s) 0 None (cell_in c (first_cell c s)) none

earliest-some : (c : CoreState) (s : ℕ) → out_of c s ≢ 0 → earliest_out c s ≡ cell_in c (first_cell c s)
earliest-some c s some = if-apart (out_of c s) 0 None (cell_in c (first_cell c s)) some

vain : (jobs : List Job) (s : ℕ) (r : Replaying) (f : FrontState Job Done) → Plays jobs r f → s < r.core.submitters
    → ((d : Done) → earliest_out r.core s ≢ Some (done d)) → Goes jobs r f (line.CollectNone s ∷ [], r)
vain jobs s r f plays below none =
    let st = plays.stands in
    let why : (out_of r.core s ≡ 0) ⊎ ((d : Done) → cell_in r.core (first_cell r.core s) ≢ Some (done d))
    = dite (ℕ_discrete (out_of r.core s) 0) (λ z. inl z) (λ some. inr (λ d e. none d (earliest-some r.core s some ∙ e))) in
    let step = vain_collects_lead r.core st.sizes (backed jobs r f st) s below why f st.front in
    record {
      events = Some (collect s, nothing) ∷ [];
      to = step.0;
      tells = (refl, tt);
      run = (step.0, step.1, refl);
      plays = subst (Plays jobs r) (sym step.1.2) plays;
      submitters = refl;
      workers = refl;
    }

collects : (jobs : List Job) (s : ℕ) (d : Done) (r : Replaying) (f : FrontState Job Done) → Plays jobs r f → s < r.core.submitters
    → out_of r.core s ≢ 0 → cell_in r.core (first_cell r.core s) ≡ Some (done d) → Goes jobs r f (collect_of s (Some (done d)) r)
collects jobs s d r f plays below some is =
    let st = plays.stands in
    let here = cell-is jobs r f (first_cell r.core s) (done d) st is in
    let step = collects_lead r.core st.sizes (backed jobs r f st) s d below (omega (arith, some)) is f st.front in
    let g : FrontState Job Done = step.0 in
    let changes = step.1.2 in
    let kept : KeepsResults f g = results-kept f g (cell_of s (f.seats s).handed) free changes.cell changes.other_cells (λ e has. absurd (none-some e has)) in
    let kept_jobs : KeepsJobs f g = jobs-kept f g (cell_of s (f.seats s).handed) free changes.cell changes.other_cells (λ j e. cc) in
    record {
      events = Some (collect s, collected d) ∷ [];
      to = g;
      tells = ((refl, refl, st.results (first_cell r.core s) d here.0 (ap (result_in result_of) here.1)), tt);
      run = (g, step.1, refl);
      plays = record {
        stands = record {
          sizes = collect-sizes r.core s st.sizes;
          front = step.2;
          law = (step_sound result_of r.core.submitters r.core.workers f g (collect s) (collected d) step.1 (sound r.core f st.front st.law)).1;
          manager_count = st.manager_count;
          number_count = st.number_count;
          jobs_are = λ i j within there. st.jobs_are i j within (kept_jobs i j there);
          results = λ i e within there. st.results i e within (kept i e there);
        };
        owes = λ w m there. plays.owes w m there
            ∙ ap (λ v. map (λ e. e.1) v.hand) (sym (changes.other_parties (r.core.submitters + w) (λ e. omega (arith, e, below))));
      };
      submitters = refl;
      workers = refl;
    }

pub collect-goes : (jobs : List Job) (s : ℕ) (x : Option (Cell Job Done)) (r : Replaying) (f : FrontState Job Done) → Plays jobs r f → s < r.core.submitters
    → earliest_out r.core s ≡ x → Goes jobs r f (collect_of s x r)
collect-goes jobs s (Some (done d)) r f plays below is =
    let some : out_of r.core s ≢ 0 = λ z. none-some (done d) (sym (earliest-none r.core s z) ∙ is) in
    collects jobs s d r f plays below some (sym (earliest-some r.core s some) ∙ is)
collect-goes jobs s x r f plays below is = vain jobs s r f plays below (λ d e. let bad = sym is ∙ e in cc)
