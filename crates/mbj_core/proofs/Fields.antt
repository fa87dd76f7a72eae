-- What a call makes of the core's fields, as contracts see it.
use Rattle.std.proofs.Common.{◌≡◌, ◌≢◌, ℕ, ◌+◌, ◌-◌, ◌*◌, ◌%◌, ◌<◌, ◌≤◌, List, [], ◌∷◌, ◌++◌, map, length, set, get_or, sym, refl, ap, ◌∙◌, subst, arith}
use Rattle.std.proofs.lemmas.List.{map-set, length-map, get_or_default, set-get_or, get_or-set_same}
use Rattle.std.proofs.lemmas.Option.{same_Some, slice_get-map, slice_get_read, slice_get_within}
use Rattle.std.specs.Prelude.{Option, None, Some, IfSome, IfNone, MatchOption, not, ◌==◌}
use Rattle.std.specs.Borrow.{Bor}
use Rattle.std.specs.Option.{option_map}
use Rattle.std.specs.List.{filter}
use Rattle.mbj_types.specs.Result.{result_of}
use Rattle.mbj_types.specs.declared.job.Job.{Job}
use Rattle.mbj_types.specs.declared.done.Done.{Done}
use Rattle.mbj_core.specs.Cells.{Cell, free, ready, done, hand_of, cell_of}
use Rattle.mbj_core.specs.CoreStates.{CoreState, HasHand, cell_in, hand_in, jobs_out, out_of, first_cell, next_cell, posted, claimed_by, finished, with_result_collected}
use Rattle.mbj_core.specs.Inside.Fields.{cell_shown, state_of, IsCore}
use Rattle.mbj_core.specs.declared.cells.Slot.{Slot}
use Rattle.mbj_core.specs.declared.cells.Slot.TheVariants as slot
use Rattle.mbj_core.specs.declared.cells.TheConstants.{MAX_SUBMITTERS, SUBMITTER_CELLS}
use Rattle.mbj_core.specs.declared.machine.Core.TheInside.{Inside}
use Rattle.mbj_core.specs.declared.machine.JobsOut.{JobsOut}
use Rattle.mbj_core.specs.Events.{Event, Answer, post, claim, finish, collect, carried_out, claimed, collected}
use Rattle.mbj_core.specs.Stands.{Leads, IsBacked}
use Rattle.mbj_core.proofs.Posts.{near}
use Rattle.mbj_core.proofs.Facts.{backed_after}
use Rattle.mbj_core.proofs.Calls.{Sizes, outs_from, posts_lead, claims_lead, finishes_lead, collects_lead, has_room}

-- what is out once one more is posted, and once the earliest is collected
abbrev pub one_more : JobsOut → JobsOut
one_more o = outs_from o.first (o.count + 1)

abbrev pub one_less : JobsOut → JobsOut
one_less o = outs_from ((o.first + 1) % SUBMITTER_CELLS) (o.count - 1)

-- a slot that shows a job that can be claimed, or a result, is one
shown_ready : (x : Slot) (job : Job) → cell_shown x ≡ ready job → x ≡ slot.Ready job
shown_ready slot.Free job e = absurd cc
shown_ready (slot.Ready j) job e = ap slot.Ready cc
shown_ready (slot.Held p j) job e = absurd cc
shown_ready (slot.Done d) job e = absurd cc

shown_held : (x : Slot) (p : ℕ) (d : Done) → cell_shown x ≡ hand_of p d → (job : Job) × (x ≡ slot.Held p job)
shown_held slot.Free p d e = absurd cc
shown_held (slot.Ready j) p d e = absurd cc
shown_held (slot.Held q j) p d e = let same : q ≡ p = cc in (j, ap (λ (r : ℕ). slot.Held r j) same)
shown_held (slot.Done b) p d e = absurd cc

shown_done : (x : Slot) (d : Done) → cell_shown x ≡ done d → x ≡ slot.Done d
shown_done slot.Free d e = absurd cc
shown_done (slot.Ready j) d e = absurd cc
shown_done (slot.Held p j) d e = absurd cc
shown_done (slot.Done b) d e = ap slot.Done cc

-- the job that a claimed cell lends
pub lent : (r : Option (Bor Job)) (x : Slot) (p : ℕ) (job : Job) → MatchOption r ((j : Job) → x ≢ slot.Held p j) (λ j. x ≡ slot.Held p j.now) → x ≡ slot.Held p job
    → (b : Bor Job) × (r ≡ Some b) × (job ≡ b.now)
lent None x p job m e = absurd (m job e)
lent (Some b) x p job m e = let same : slot.Held p job ≡ slot.Held p b.now = sym e ∙ m in (b, refl, cc)

module _ (a : Inside) where
  pub sizes_of : IsCore a → Sizes (state_of a)
  sizes_of is = record {
    cells = length-map a.cells.items cell_shown ∙ sym a.cells.ok.0 ∙ is.cells;
    hands = sym a.hands.ok.0 ∙ is.hands;
    outs = sym a.outs.ok.0 ∙ is.outs;
  }

  -- the fields, with other cells, hands and jobs that are out
  abbrev pub state_with : List Slot → List (List ℕ) → List JobsOut → CoreState
  state_with cells hands outs = record { submitters = a.submitters; workers = a.workers; cells = map cell_shown cells; hands = hands; outs = outs }

  -- one cell is replaced
  pub cell_set : (i : ℕ) (x : Slot) (y : Cell Job Done) (hands : List (List ℕ)) (outs : List JobsOut) → cell_shown x ≡ y
      → state_with (set a.cells.items i x) hands outs
      ≡ record { submitters = a.submitters; workers = a.workers; cells = set (map cell_shown a.cells.items) i y; hands = hands; outs = outs }
  cell_set i x y hands outs e =
      ap (λ (t : List (Cell Job Done)). record { submitters = a.submitters; workers = a.workers; cells = t; hands = hands; outs = outs })
      (map-set cell_shown a.cells.items i x ∙ ap (set (map cell_shown a.cells.items) i) e)

module _ (a : Inside) (is : IsCore a) where
  -- the jobs that are out, as they are read, and their bounds
  pub out_read : (s : ℕ) (out : JobsOut) → s < a.submitters → out ≡ get_or a.outs.items s out → out ≡ jobs_out (state_of a) s
  out_read s out l o = o ∙ get_or_default a.outs.items s out (outs_from 0 0) (omega (arith, (sizes_of a is).outs))

  pub count_read : (s : ℕ) (out : JobsOut) → s < a.submitters → out ≡ get_or a.outs.items s out → out.count ≡ out_of (state_of a) s
  count_read s out l o = ap (λ (z : JobsOut). z.count) (out_read s out l o)

  pub out_within : (s : ℕ) → s < a.submitters → out_of (state_of a) s ≤ SUBMITTER_CELLS
  out_within s l = is.each_out s (outs_from 0 0) (omega (arith, (sizes_of a is).outs))

  -- a call that leaves these fields made what it should of the core, and led by its event
  led : (new what : CoreState) (e : Event Job Done) (r : Answer Job Done) → new ≡ what → what.submitters ≡ a.submitters → what.workers ≡ a.workers → Leads (state_of a) e r what → (new ≡ what) × IsBacked new × Leads (state_of a) e r new
  led new what e r same wide deep leads = (same, subst IsBacked (sym same) (backed_after (state_of a) what e r wide deep leads is.backed), subst (Leads (state_of a) e r) (sym same) leads)

  pub first_within : (s : ℕ) (out : JobsOut) → s < a.submitters → out ≡ get_or a.outs.items s out → out.first < SUBMITTER_CELLS
  first_within s out l o = subst (λ (z : JobsOut). z.first < SUBMITTER_CELLS) (sym (out_read s out l o))
      (is.each_first s (outs_from 0 0) (omega (arith, (sizes_of a is).outs)))

  pub after_post : (s next : ℕ) (out : JobsOut) (job : Job) → s < a.submitters → next ≡ cell_of s (out.first + out.count) → out ≡ get_or a.outs.items s out
      → out.count ≢ SUBMITTER_CELLS
      → let new : CoreState = state_with a (set a.cells.items next (slot.Ready job)) a.hands.items (set a.outs.items s (one_more out)) in
      (new ≡ posted (state_of a) s job) × IsBacked new × Leads (state_of a) (post s job) carried_out new
  after_post s next out job l at o room =
      let c : CoreState = state_of a in let out_is = out_read s out l o in let count_is = count_read s out l o in let most = out_within s l in
      let next_is : next ≡ next_cell c s = at ∙ ap (λ (z : JobsOut). cell_of s (z.first + z.count)) out_is in
      led (state_with a (set a.cells.items next (slot.Ready job)) a.hands.items (set a.outs.items s (one_more out))) (posted c s job) (post s job) carried_out
      (cell_set a next (slot.Ready job) (ready job) a.hands.items (set a.outs.items s (one_more out)) refl
      ∙ ap (λ (i : ℕ). record c { cells = set c.cells i (ready job); outs = set c.outs s (one_more out) }) next_is
      ∙ ap (λ (z : JobsOut). record c { cells = set c.cells (next_cell c s) (ready job); outs = set c.outs s (one_more z) }) out_is)
      refl refl (posts_lead c (sizes_of a is) is.backed s job l (omega arith))

  cell_read : (i : ℕ) (x : Slot) → i < SUBMITTER_CELLS * a.submitters → x ≡ get_or a.cells.items i x → cell_in (state_of a) i ≡ Some (cell_shown x)
  cell_read i x l e = slice_get-map cell_shown a.cells.items i ∙ ap (option_map cell_shown) (slice_get_read a.cells.items (SUBMITTER_CELLS * a.submitters) i x (sym is.cells ∙ a.cells.ok.0) l e)

  hand_read : (p : ℕ) (hand : List ℕ) → p < a.submitters + a.workers → hand ≡ get_or a.hands.items p hand → hand ≡ hand_in (state_of a) p
  hand_read p hand l e = e ∙ get_or_default a.hands.items p hand [] (omega (arith, (sizes_of a is).hands))

  -- a cell is written back as it was read
  pub unchanged : (i : ℕ) (x y : Slot) → x ≡ get_or a.cells.items i x → y ≡ x → state_with a (set a.cells.items i y) a.hands.items a.outs.items ≡ state_of a
  unchanged i x y e same = ap (λ (t : List Slot). state_with a t a.hands.items a.outs.items)
      (ap (set a.cells.items i) (same ∙ e) ∙ set-get_or a.cells.items i x)

  pub ready_read : (i : ℕ) (job : Job) (x : Slot) → i < SUBMITTER_CELLS * a.submitters → x ≡ get_or a.cells.items i x → x ≡ slot.Ready job → cell_in (state_of a) i ≡ Some (ready job)
  ready_read i job x li e is_ready = cell_read i x li e ∙ ap (λ (t : Slot). Some (cell_shown t)) is_ready

  pub after_claim : (p i : ℕ) (job : Job) (x y : Slot) (hand more : List ℕ) → p < a.submitters + a.workers → i < SUBMITTER_CELLS * a.submitters → x ≡ get_or a.cells.items i x → x ≡ slot.Ready job → y ≡ slot.Held p job
      → hand ≡ get_or a.hands.items p hand → more ≡ hand ++ i ∷ []
      → let new : CoreState = state_with a (set a.cells.items i y) (set a.hands.items p more) a.outs.items in
      (new ≡ claimed_by (state_of a) p i job) × IsBacked new × Leads (state_of a) (claim p i) (claimed job) new
  after_claim p i job x y hand more lp li e is_ready is_held h longer =
      let c : CoreState = state_of a in
      led (state_with a (set a.cells.items i y) (set a.hands.items p more) a.outs.items) (claimed_by c p i job) (claim p i) (claimed job)
      (cell_set a i y (hand_of p (result_of job)) (set a.hands.items p more) a.outs.items (ap cell_shown is_held)
      ∙ ap (λ (t : List ℕ). record c { cells = set c.cells i (hand_of p (result_of job)); hands = set c.hands p t }) (longer ∙ ap (λ (t : List ℕ). t ++ i ∷ []) (hand_read p hand lp h)))
      refl refl (claims_lead c (sizes_of a is) is.backed p i job lp li (ready_read i job x li e is_ready))

  -- what is read at a place that has just been written
  pub read_back : (i : ℕ) (y z : Slot) → i < SUBMITTER_CELLS * a.submitters → z ≡ get_or (set a.cells.items i y) i z → z ≡ y
  read_back i y z li e = e ∙ get_or-set_same a.cells.items i y z (omega (arith, is.cells, a.cells.ok.0))

  -- the hand has room for the cell of a job that no party has claimed
  pub hand_room : (p i : ℕ) (job : Job) (x : Slot) (hand : List ℕ) → p < a.submitters + a.workers → i < SUBMITTER_CELLS * a.submitters → x ≡ get_or a.cells.items i x → x ≡ slot.Ready job
      → hand ≡ get_or a.hands.items p hand → length hand < SUBMITTER_CELLS * MAX_SUBMITTERS
  hand_room p i job x hand lp li e is_ready h =
      let less = has_room (state_of a) (sizes_of a is) is.backed p i job lp li (ready_read i job x li e is_ready) in
      let same = ap (λ (t : List ℕ). length t) (hand_read p hand lp h) in let few = is.submitters in omega arith

  -- a slot with no job that can be claimed
  pub unready : (i : ℕ) (x : Slot) → i < SUBMITTER_CELLS * a.submitters → x ≡ get_or a.cells.items i x → ((job : Job) → x ≢ slot.Ready job) → (job : Job) → cell_in (state_of a) i ≢ Some (ready job)
  unready i x li e others job h = others job (shown_ready x job (same_Some (cell_shown x) (ready job) (sym (cell_read i x li e) ∙ h)))

  pub after_finish : (p i : ℕ) (d : Done) (hand left : List ℕ) → p < a.submitters + a.workers → cell_in (state_of a) i ≡ Some (hand_of p d) → hand ≡ get_or a.hands.items p hand
      → left ≡ filter (λ k. not (k == i)) hand
      → let new : CoreState = state_with a (set a.cells.items i (slot.Done d)) (set a.hands.items p left) a.outs.items in
      (new ≡ finished (state_of a) p i d) × IsBacked new × Leads (state_of a) (finish p i d) carried_out new
  after_finish p i d hand left lp is_held h shorter =
      let c : CoreState = state_of a in
      let li : i < SUBMITTER_CELLS * a.submitters = omega (arith, slice_get_within c.cells i (hand_of p d) is_held, (sizes_of a is).cells) in
      led (state_with a (set a.cells.items i (slot.Done d)) (set a.hands.items p left) a.outs.items) (finished c p i d) (finish p i d) carried_out
      (cell_set a i (slot.Done d) (done d) (set a.hands.items p left) a.outs.items refl
      ∙ ap (λ (t : List ℕ). record c { cells = set c.cells i (done d); hands = set c.hands p t }) (shorter ∙ ap (filter (λ k. not (k == i))) (hand_read p hand lp h)))
      refl refl (finishes_lead c (sizes_of a is) is.backed p i d lp li is_held)

  first_at : (s at : ℕ) (out : JobsOut) → s < a.submitters → at ≡ cell_of s out.first → out ≡ get_or a.outs.items s out → at ≡ first_cell (state_of a) s
  first_at s at out l here o = here ∙ ap (λ (z : JobsOut). cell_of s z.first) (out_read s out l o)

  first_near : (s at : ℕ) → s < a.submitters → at ≡ first_cell (state_of a) s → at < SUBMITTER_CELLS * a.submitters
  first_near s at l same = subst (λ (k : ℕ). k < SUBMITTER_CELLS * a.submitters) (sym same) (near a.submitters s (jobs_out (state_of a) s).first l)

  pub done_read : (s at : ℕ) (out : JobsOut) (d : Done) (x : Slot) → s < a.submitters → at ≡ cell_of s out.first → out ≡ get_or a.outs.items s out
      → x ≡ get_or a.cells.items at x → x ≡ slot.Done d → cell_in (state_of a) (first_cell (state_of a) s) ≡ Some (done d)
  done_read s at out d x l here o e is_done = let same = first_at s at out l here o in
      ap (cell_in (state_of a)) (sym same) ∙ cell_read at x (first_near s at l same) e ∙ ap (λ (t : Slot). Some (cell_shown t)) is_done

  -- a slot with no result
  pub undone : (s at : ℕ) (out : JobsOut) (x : Slot) → s < a.submitters → at ≡ cell_of s out.first → out ≡ get_or a.outs.items s out
      → x ≡ get_or a.cells.items at x → ((d : Done) → x ≢ slot.Done d) → (d : Done) → cell_in (state_of a) (first_cell (state_of a) s) ≢ Some (done d)
  undone s at out x l here o e others d h = let same = first_at s at out l here o in
      others d (shown_done x d (same_Some (cell_shown x) (done d) (sym (cell_read at x (first_near s at l same) e) ∙ ap (cell_in (state_of a)) same ∙ h)))

  pub after_collect : (s at : ℕ) (out : JobsOut) (d : Done) (x y : Slot) → s < a.submitters → at ≡ cell_of s out.first → out ≡ get_or a.outs.items s out
      → out.count ≢ 0 → x ≡ get_or a.cells.items at x → x ≡ slot.Done d → y ≡ slot.Free
      → let new : CoreState = state_with a (set a.cells.items at y) a.hands.items (set a.outs.items s (one_less out)) in
      (new ≡ with_result_collected (state_of a) s) × IsBacked new × Leads (state_of a) (collect s) (collected d) new
  after_collect s at out d x y l here o some_out e is_done is_free =
      let c : CoreState = state_of a in let out_is = out_read s out l o in let count_is = count_read s out l o in let same = first_at s at out l here o in
      led (state_with a (set a.cells.items at y) a.hands.items (set a.outs.items s (one_less out))) (with_result_collected c s) (collect s) (collected d)
      (cell_set a at y free a.hands.items (set a.outs.items s (one_less out)) (ap cell_shown is_free)
      ∙ ap (λ (i : ℕ). record c { cells = set c.cells i free; outs = set c.outs s (one_less out) }) same
      ∙ ap (λ (z : JobsOut). record c { cells = set c.cells (first_cell c s) free; outs = set c.outs s (one_less z) }) out_is)
      refl refl (collects_lead c (sizes_of a is) is.backed s d l (omega arith) (done_read s at out d x l here o e is_done))

  -- the job that a party has claimed, as it is read out of its cell
  pub held_read : (r : Option (Bor Job)) (p i : ℕ) (x : Slot) → i < SUBMITTER_CELLS * a.submitters → x ≡ get_or a.cells.items i x → MatchOption r ((j : Job) → x ≢ slot.Held p j) (λ j. x ≡ slot.Held p j.now)
      → IfSome r (λ j. HasHand (state_of a) i p (result_of j.now)) × IfNone r ((d : Done) → ¬ HasHand (state_of a) i p d)
  held_read None p i x li e none = (tt, λ d h. let was = shown_held x p d (same_Some (cell_shown x) (hand_of p d) (sym (cell_read i x li e) ∙ h)) in none was.0 was.1)
  held_read (Some b) p i x li e is_held = (cell_read i x li e ∙ ap (λ (t : Slot). Some (cell_shown t)) is_held, tt)
