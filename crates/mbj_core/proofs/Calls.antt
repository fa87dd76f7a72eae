-- What a call makes of a core leads each state that it stands for by the call's event.
use Rattle.std.proofs.Common.{◌≡◌, ◌≢◌, ℕ, ◌+◌, ◌-◌, ◌*◌, ◌%◌, ◌<◌, ◌≤◌, not, eqb, List, [], ◌∷◌, ◌++◌, length, set, sym, refl, ap, ◌∙◌, subst, arith, length-append, get_or, get_or-set_same, get_or-set_other, ◌⊎◌, ⊎_elim}
use Rattle.std.specs.Prelude.{Some, slice_get}
use Rattle.std.specs.List.{filter}
use Rattle.std.proofs.lemmas.Option.{same_Some, get_or_from_slice_get}
use Rattle.std.proofs.Math.Logic.{∥∥₁_elim}
use Rattle.std.proofs.Math.Bridge.{le_prop}
use mathlib.Core.Logic.{dite}
use native.Mathlib.Decide.{ℕ_discrete}
use Rattle.mbj_types.specs.Result.{result_of}
use Rattle.mbj_types.specs.declared.job.Job.{Job}
use Rattle.mbj_types.specs.declared.done.Done.{Done}
use Rattle.mbj_core.specs.declared.party.View.{View}
use Rattle.mbj_core.specs.declared.party.Phase.TheVariants.{Rest}
use Rattle.mbj_core.specs.declared.cells.TheConstants.{SUBMITTER_CELLS}
use Rattle.mbj_core.specs.declared.machine.JobsOut.{JobsOut}
use Rattle.mbj_core.specs.Cells.{Cell, free, ready, done, hand_of, word_of, result_in, cell_of}
use Rattle.mbj_core.specs.Parties.{view, front, FrontState, new_party, with_due, with_handed, with_hand}
use Rattle.mbj_core.specs.Events.{post, claim, finish, collect, carried_out, claimed, collected, nothing, Leaves, Step}
use Rattle.mbj_core.specs.CoreStates.{CoreState, cell_in, hand_in, jobs_out, out_of, first_cell, next_cell, posted, claimed_by, finished, with_result_collected}
use Rattle.mbj_core.specs.Stands.{StandsFor, Leads, IsBacked}
use Rattle.mbj_core.proofs.Puts.{put, at_put, put_here, put_else}
use Rattle.mbj_core.proofs.Entries.{at_left, at_end, at_middle, skip, in_whole, set_here, set_else}
use Rattle.mbj_core.proofs.Words.{same_result}
use Rattle.mbj_core.proofs.Carried.{cells_of, leaving, room}
use Rattle.mbj_core.proofs.Posts.{one_owner, one_number, near}
use Rattle.mbj_core.proofs.Steps.{put_changes}
use Rattle.mbj_core.proofs.Facts.{Facts, facts_of}

-- jobs that are out, by the number of the earliest and their count
abbrev pub outs_from : ℕ → ℕ → JobsOut
outs_from first count = record { first = first; count = count }

pub record Sizes (c : CoreState) : Type 0 where
  pub cells : length c.cells ≡ SUBMITTER_CELLS * c.submitters
  pub hands : length c.hands ≡ c.submitters + c.workers
  pub outs : length c.outs ≡ c.submitters

module _ (c : CoreState) (size : Sizes c) (f : FrontState Job Done) (sf : StandsFor c f) where
  -- one cell changes
  cell_after : (i : ℕ) (x : Cell Job Done) (j : ℕ) → j < SUBMITTER_CELLS * c.submitters → slice_get (set c.cells i x) j ≡ Some (put f.cells i x j)
  cell_after i x j l = at_put f.cells i x (λ k y. k < SUBMITTER_CELLS * c.submitters → slice_get (set c.cells i x) k ≡ Some y) j
      (λ near. set_here c.cells i x (omega (arith, size.cells))) (λ ne l. set_else c.cells i j x ne ∙ sf.each_cell j l) l

  -- one cell changes for one with the same result, and one hand for one whose cells have its results
  pub stands_hand : (i p : ℕ) (x : Cell Job Done) (hand : List (ℕ × Done)) → result_in result_of x ≡ result_in result_of (f.cells i) → p < c.submitters + c.workers
      → ((k j : ℕ) (d : Done) → slice_get hand k ≡ Some (j, d) → result_in result_of (f.cells j) ≡ Some d)
      → StandsFor (record c { cells = set c.cells i x; hands = set c.hands p (cells_of hand) }) (front (put f.cells i x) (put f.seats p (with_hand (f.seats p) hand)))
  stands_hand i p x hand same lp results = let w : View Done = with_hand (f.seats p) hand in
      let kept : (j : ℕ) → result_in result_of (put f.cells i x j) ≡ result_in result_of (f.cells j) = λ j. at_put f.cells i x (λ k y. result_in result_of y ≡ result_in result_of (f.cells k)) j same (λ _. refl) in record {
        each_cell = cell_after i x;
        at_rest = λ q. at_put f.seats p w (λ r y. (y.number ≡ r) × (y.phase ≡ Rest)) q (sf.at_rest p) (λ _. sf.at_rest q);
        each_hand = λ q l. at_put f.seats p w (λ r y. r < c.submitters + c.workers → slice_get (set c.hands p (cells_of hand)) r ≡ Some (cells_of y.hand)) q
            (λ _. set_here c.hands p (cells_of hand) (omega (arith, size.hands))) (λ ne l. set_else c.hands p q (cells_of hand) ne ∙ sf.each_hand q l) l;
        hand_results = λ q k j d. at_put f.seats p w (λ r y. slice_get y.hand k ≡ Some (j, d) → result_in result_of (put f.cells i x j) ≡ Some d) q
            (λ at. kept j ∙ results k j d at) (λ _ at. kept j ∙ sf.hand_results q k j d at);
        each_first = λ s l. at_put f.seats p w (λ r y. r < c.submitters → y.handed % SUBMITTER_CELLS ≡ (jobs_out c r).first) s
            (sf.each_first p) (λ _. sf.each_first s) l;
        each_out = λ s l. at_put f.seats p w (λ r y. r < c.submitters → length y.due ≡ y.handed + out_of c r) s (sf.each_out p) (λ _. sf.each_out s) l;
        due_results = λ s n l. at_put f.seats p w (λ r y. r < c.submitters → y.handed ≤ n → n < length y.due → result_in result_of (put f.cells i x (cell_of r n)) ≡ slice_get y.due n) s
            (λ l lo hi. kept (cell_of p n) ∙ sf.due_results p n l lo hi) (λ _ l lo hi. kept (cell_of s n) ∙ sf.due_results s n l lo hi) l;
        posters = λ q. at_put f.seats p w (λ r y. c.submitters ≤ r → (y.due ≡ []) × (y.handed ≡ 0)) q (sf.posters p) (λ _. sf.posters q);
        nobody = λ q. at_put f.seats p w (λ r y. c.submitters + c.workers ≤ r → y ≡ new_party r) q (λ far. absurd (omega arith)) (λ _. sf.nobody q);
      }

  -- the cell of the number m of the submitter s changes, which is in no hand, and what is due and handed out
  pub stands_part : (s m first out : ℕ) (x : Cell Job Done) (due : List Done) (handed : ℕ) → s < c.submitters
      → ((p k : ℕ) (d : Done) → slice_get (f.seats p).hand k ≢ Some (cell_of s m, d))
      → handed % SUBMITTER_CELLS ≡ first → length due ≡ handed + out
      → ((n : ℕ) → handed ≤ n → n < length due → result_in result_of (put f.cells (cell_of s m) x (cell_of s n)) ≡ slice_get due n)
      → let v : View Done = f.seats s in
      StandsFor (record c { cells = set c.cells (cell_of s m) x; outs = set c.outs s (outs_from first out) })
      (front (put f.cells (cell_of s m) x) (put f.seats s (view v.number v.phase due handed v.hand v.looks)))
  stands_part s m first out x due handed ls lacks is_first is_out results = let o : JobsOut = outs_from first out in let none : JobsOut = outs_from 0 0 in
      let v : View Done = f.seats s in let w : View Done = view v.number v.phase due handed v.hand v.looks in let i : ℕ = cell_of s m in
      let kept : (p k j : ℕ) (d : Done) → slice_get (f.seats p).hand k ≡ Some (j, d) → result_in result_of (put f.cells i x j) ≡ Some d = λ p k j d at.
      at_put f.cells i x (λ r y. slice_get (f.seats p).hand k ≡ Some (r, d) → result_in result_of y ≡ Some d) j (λ here. absurd (lacks p k d here)) (λ _ at. sf.hand_results p k j d at) at in record {
        each_cell = cell_after i x;
        at_rest = λ q. at_put f.seats s w (λ r y. (y.number ≡ r) × (y.phase ≡ Rest)) q (sf.at_rest s) (λ _. sf.at_rest q);
        each_hand = λ q. at_put f.seats s w (λ r y. r < c.submitters + c.workers → slice_get c.hands r ≡ Some (cells_of y.hand)) q (sf.each_hand s) (λ _. sf.each_hand q);
        hand_results = λ q k j d. at_put f.seats s w (λ r y. slice_get y.hand k ≡ Some (j, d) → result_in result_of (put f.cells i x j) ≡ Some d) q (kept s k j d) (λ _. kept q k j d);
        each_first = λ t l. at_put f.seats s w (λ r y. r < c.submitters → y.handed % SUBMITTER_CELLS ≡ (get_or (set c.outs s o) r none).first) t
            (λ _. is_first ∙ ap (λ (z : JobsOut). z.first) (sym (get_or-set_same c.outs s o none (omega (arith, size.outs)))))
            (λ ne l. sf.each_first t l ∙ ap (λ (z : JobsOut). z.first) (sym (get_or-set_other c.outs s t o none ne))) l;
        each_out = λ t l. at_put f.seats s w (λ r y. r < c.submitters → length y.due ≡ y.handed + (get_or (set c.outs s o) r none).count) t
            (λ _. is_out ∙ ap (λ (z : JobsOut). handed + z.count) (sym (get_or-set_same c.outs s o none (omega (arith, size.outs)))))
            (λ ne l. sf.each_out t l ∙ ap (λ (z : JobsOut). (f.seats t).handed + z.count) (sym (get_or-set_other c.outs s t o none ne))) l;
        due_results = λ t n l. at_put f.seats s w (λ r y. r < c.submitters → y.handed ≤ n → n < length y.due → result_in result_of (put f.cells i x (cell_of r n)) ≡ slice_get y.due n) t
            (λ _. results n) (λ ne l lo hi. ap (result_in result_of) (put_else f.cells i (cell_of t n) x (λ e. ne (one_owner t s n m e))) ∙ sf.due_results t n l lo hi) l;
        posters = λ q. at_put f.seats s w (λ r y. c.submitters ≤ r → (y.due ≡ []) × (y.handed ≡ 0)) q (λ far. absurd (omega arith)) (λ _. sf.posters q);
        nobody = λ q. at_put f.seats s w (λ r y. c.submitters + c.workers ≤ r → y ≡ new_party r) q (λ far. absurd (omega arith)) (λ _. sf.nobody q);
      }

  -- the cells of the next number and of the earliest that is out
  next_is : (s : ℕ) → s < c.submitters → next_cell c s ≡ cell_of s (length (f.seats s).due)
  next_is s l = let a = sf.each_out s l in let b = sf.each_first s l in let n : ℕ = (jobs_out c s).first in omega arith

  first_is : (s : ℕ) → s < c.submitters → first_cell c s ≡ cell_of s (f.seats s).handed
  first_is s l = let b = sf.each_first s l in let n : ℕ = (jobs_out c s).first in omega arith

  cell_is : (i : ℕ) (x : Cell Job Done) → i < SUBMITTER_CELLS * c.submitters → cell_in c i ≡ Some x → f.cells i ≡ x
  cell_is i x l e = same_Some (f.cells i) x (sym (sf.each_cell i l) ∙ e)

  hand_is : (p : ℕ) → p < c.submitters + c.workers → hand_in c p ≡ cells_of (f.seats p).hand
  hand_is p l = get_or_from_slice_get c.hands p (cells_of (f.seats p).hand) [] (sf.each_hand p l)

  post_leads : (s : ℕ) (j : Job) → Facts c f → s < c.submitters → out_of c s < SUBMITTER_CELLS
      → (g : FrontState Job Done) × Step result_of c.submitters c.workers f (post s j) carried_out g × StandsFor (posted c s j) g
  post_leads s j all l below =
      let v : View Done = f.seats s in let m : ℕ = length v.due in let i : ℕ = cell_of s m in let d : Done = result_of j in let due : List Done = v.due ++ d ∷ [] in let w : View Done = with_due v due in
      let out = sf.each_out s l in let longer = length-append v.due (d ∷ []) in let o : ℕ = out_of c s in
      let empty = all.idle s m l (omega arith) (omega arith) in
      let stands = stands_part s m (jobs_out c s).first (o + 1) (ready j) due v.handed l
      (λ p k e at. let word = all.holder p k i e at in absurd (omega arith))
      (sf.each_first s l) (omega arith)
      (λ n lo hi. dite (ℕ_discrete n m)
      (λ e. subst (λ (k : ℕ). result_in result_of (put f.cells i (ready j) (cell_of s k)) ≡ slice_get due k) (sym e) (ap (result_in result_of) (put_here f.cells i (ready j)) ∙ sym (at_middle v.due [] d)))
      (λ ne. ap (result_in result_of) (put_else f.cells i (cell_of s n) (ready j) (λ e. ne (one_number s v.handed n m lo (omega arith) (omega arith) (omega arith) e)))
      ∙ sf.due_results s n l lo (omega arith) ∙ sym (at_left v.due (d ∷ []) n (omega arith)))) in (
        front (put f.cells i (ready j)) (put f.seats s w),
        (l, omega arith, put_changes f i (ready j) s w),
        subst (λ (k : ℕ). StandsFor (record c { cells = set c.cells k (ready j); outs = set c.outs s (outs_from (jobs_out c s).first (o + 1)) })
            (front (put f.cells i (ready j)) (put f.seats s w)))
            (sym (next_is s l)) stands,
      )

  claim_leads : (p i : ℕ) (j : Job) → p < c.submitters + c.workers → i < SUBMITTER_CELLS * c.submitters → cell_in c i ≡ Some (ready j)
      → (g : FrontState Job Done) × Step result_of c.submitters c.workers f (claim p i) (claimed j) g × StandsFor (claimed_by c p i j) g
  claim_leads p i j lp li is =
      let v : View Done = f.seats p in let d : Done = result_of j in let hand : List (ℕ × Done) = v.hand ++ (i, d) ∷ [] in let w : View Done = with_hand v hand in
      let here = cell_is i (ready j) li is in
      let stands = stands_hand i p (hand_of p d) hand (ap (result_in result_of) (sym here)) lp
      (λ k q e at. more k q e (at_end v.hand (i, d) (q, e) k at)) in (
        front (put f.cells i (hand_of p d)) (put f.seats p w),
        (lp, li, here, put_changes f i (hand_of p d) p w),
        subst (λ (t : List ℕ). StandsFor (record c { cells = set c.cells i (hand_of p d); hands = set c.hands p t }) (front (put f.cells i (hand_of p d)) (put f.seats p w)))
            (cells_more v.hand i d ∙ ap (λ (t : List ℕ). t ++ i ∷ []) (sym (hand_is p lp))) stands,
      )
    where
      more : (k q : ℕ) (e : Done) → (slice_get (f.seats p).hand k ≡ Some (q, e)) ⊎ ((k ≡ length (f.seats p).hand) × (◌≡◌ {A = ℕ × Done} (i, result_of j) (q, e))) → result_in result_of (f.cells q) ≡ Some e
      more k q e at = ⊎_elim (λ old. sf.hand_results p k q e old)
          (λ new. subst (λ (z : ℕ × Done). result_in result_of (f.cells z.0) ≡ Some z.1) new.1 (ap (result_in result_of) (cell_is i (ready j) li is))) at

      cells_more : (l : List (ℕ × Done)) (i : ℕ) (d : Done) → cells_of (l ++ (i, d) ∷ []) ≡ cells_of l ++ i ∷ []
      cells_more [] i d = refl
      cells_more (x ∷ l) i d = ap (λ (t : List ℕ). x.0 ∷ t) (cells_more l i d)

  finish_leads : (p i : ℕ) (d : Done) → Facts c f → p < c.submitters + c.workers → i < SUBMITTER_CELLS * c.submitters → cell_in c i ≡ Some (hand_of p d)
      → (g : FrontState Job Done) × Step result_of c.submitters c.workers f (finish p i d) carried_out g × StandsFor (finished c p i d) g
  finish_leads p i d all lp li is =
      let v : View Done = f.seats p in let here = cell_is i (hand_of p d) li is in
      let r = leaving v.hand i (all.once p) (all.held p i li (ap word_of here)) in let rest : List (ℕ × Done) = r.1 in let w : View Done = with_hand v rest in
      let same : d ≡ r.0 = same_result result_of (f.cells i) p d r.0 here (sf.hand_results p r.4.0 i r.0 r.4.1) in
      let leaves : Leaves v.hand i d rest = subst (λ (e : Done). Leaves v.hand i e rest) (sym same) r.2 in
      let stands = stands_hand i p (done d) rest (ap (result_in result_of) (sym here)) lp
      (λ k j e at. sf.hand_results p (skip leaves.0 k) j e (in_whole v.hand rest leaves.0 leaves.1 (i, d) (j, e) k leaves.2 leaves.3 at)) in (
        front (put f.cells i (done d)) (put f.seats p w),
        (lp, (rest, leaves, put_changes f i (done d) p w)),
        subst (λ (t : List ℕ). StandsFor (record c { cells = set c.cells i (done d); hands = set c.hands p t }) (front (put f.cells i (done d)) (put f.seats p w)))
            (r.3 ∙ ap (filter (λ k. not (eqb k i))) (sym (hand_is p lp))) stands,
      )

  collect_leads : (s : ℕ) (d : Done) → Facts c f → s < c.submitters → 0 < out_of c s → cell_in c (first_cell c s) ≡ Some (done d)
      → (g : FrontState Job Done) × Step result_of c.submitters c.workers f (collect s) (collected d) g × StandsFor (with_result_collected c s) g
  collect_leads s d all l some_out is =
      let v : View Done = f.seats s in let h : ℕ = v.handed in let i : ℕ = cell_of s h in let w : View Done = with_handed v (h + 1) in
      let n : ℕ = (jobs_out c s).first in let o : ℕ = out_of c s in
      let out = sf.each_out s l in let at_first = sf.each_first s l in let few = all.few s l in
      let here : f.cells i ≡ done d = cell_is i (done d) (near c.submitters s h l) (ap (cell_in c) (sym (first_is s l)) ∙ is) in
      let stands = stands_part s h ((n + 1) % SUBMITTER_CELLS) (o - 1) free v.due (h + 1) l
      (λ p k e at. let word = sym (ap word_of here) ∙ all.holder p k i e at in absurd (omega arith))
      (omega arith) (omega arith)
      (λ m lo hi. ap (result_in result_of) (put_else f.cells i (cell_of s m) free (λ e. let same = one_number s h m h (omega arith) (omega arith) (omega arith) (omega arith) e in omega arith))
      ∙ sf.due_results s m l (omega arith) hi) in (
        front (put f.cells i free) (put f.seats s w),
        (l, here, put_changes f i free s w),
        subst (λ (k : ℕ). StandsFor (record c { cells = set c.cells k free; outs = set c.outs s (outs_from ((n + 1) % SUBMITTER_CELLS) (o - 1)) })
            (front (put f.cells i free) (put f.seats s w))) (sym (first_is s l)) stands,
      )

module _ (c : CoreState) (size : Sizes c) (backed : IsBacked c) where
  pub posts_lead : (s : ℕ) (j : Job) → s < c.submitters → out_of c s < SUBMITTER_CELLS → Leads c (post s j) carried_out (posted c s j)
  posts_lead s j l below f sf = post_leads c size f sf s j (facts_of c f sf backed) l below

  pub claims_lead : (p i : ℕ) (j : Job) → p < c.submitters + c.workers → i < SUBMITTER_CELLS * c.submitters → cell_in c i ≡ Some (ready j) → Leads c (claim p i) (claimed j) (claimed_by c p i j)
  claims_lead p i j lp li is f sf = claim_leads c size f sf p i j lp li is

  pub vain_claims_lead : (p i : ℕ) → p < c.submitters + c.workers → i < SUBMITTER_CELLS * c.submitters → ((j : Job) → cell_in c i ≢ Some (ready j)) → Leads c (claim p i) nothing c
  vain_claims_lead p i lp li unready f sf = (f, (lp, li, (λ j e. unready j (sf.each_cell i li ∙ ap Some e)), refl), sf)

  pub finishes_lead : (p i : ℕ) (d : Done) → p < c.submitters + c.workers → i < SUBMITTER_CELLS * c.submitters → cell_in c i ≡ Some (hand_of p d) → Leads c (finish p i d) carried_out (finished c p i d)
  finishes_lead p i d lp li is f sf = finish_leads c size f sf p i d (facts_of c f sf backed) lp li is

  pub collects_lead : (s : ℕ) (d : Done) → s < c.submitters → 0 < out_of c s → cell_in c (first_cell c s) ≡ Some (done d) → Leads c (collect s) (collected d) (with_result_collected c s)
  collects_lead s d l some_out is f sf = collect_leads c size f sf s d (facts_of c f sf backed) l some_out is

  -- none is out, or the earliest has no result
  pub vain_collects_lead : (s : ℕ) → s < c.submitters → (out_of c s ≡ 0) ⊎ ((d : Done) → cell_in c (first_cell c s) ≢ Some (done d)) → Leads c (collect s) nothing c
  vain_collects_lead s l why f sf = let h : ℕ = (f.seats s).handed in (
    f,
    (
      l,
      (λ d e. ⊎_elim
          (λ none. let out = sf.each_out s l in let word = sym (ap word_of e) ∙ (facts_of c f sf backed).idle s h l (omega arith) (omega arith) in omega arith)
          (λ other. other d (ap (cell_in c) (first_is c size f sf s l) ∙ sf.each_cell (cell_of s h) (near c.submitters s h l) ∙ ap Some e)) why),
      refl,
    ),
    sf,
  )

  -- the hand of p has room for a cell that is ready
  pub has_room : (p i : ℕ) (j : Job) → p < c.submitters + c.workers → i < SUBMITTER_CELLS * c.submitters → cell_in c i ≡ Some (ready j) → length (hand_in c p) < SUBMITTER_CELLS * c.submitters
  has_room p i j lp li is = ∥∥₁_elim backed le_prop (λ h. let f = h.0 in let sf = h.1 in let all = facts_of c f sf backed in let here = cell_is c size f sf i (ready j) li is in
      subst (λ (t : List ℕ). length t < SUBMITTER_CELLS * c.submitters) (sym (hand_is c size f sf p lp))
      (room (f.seats p).hand i (SUBMITTER_CELLS * c.submitters) (all.once p) (λ k m d at. all.close p k m d at) (λ k d at. let word = sym (ap word_of here) ∙ all.holder p k i d at in omega arith) li))
