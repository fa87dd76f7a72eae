-- A ring's fields, and what a contract sees of them, at each step.
--     made, reads      cells that begin with the values are a ring's;  what a cell of the ring holds
--     fresh, opened, written_open, written_value, committed, popped, emptied      the ring after each step
--     value_count, open_count, least, all_found      what the state and the fields say of how many values there are
--     live_read, live_filled, live_written      committed value i, at its place
--     open_read, open_filled, open_written      open value i, at its place
use Rattle.std.proofs.Common.{◌≡◌, ℕ, suc, ◌+◌, ◌%◌, ◌<◌, ◌≤◌, List, [], ◌∷◌, ◌++◌, length, take, drop, set, replicate, get_or, slice_get, Option, Some, None, refl, sym, ap, ◌∙◌, subst, inl, arith, length-append, length-drop, length-set, length-take-le, drop-set-lt}
use Rattle.std.proofs.lemmas.List.{take-append-drop, take-append-le, drop-append-le, drop-drop, take-set-le, drop-set-add, length-replicate}
use Rattle.std.proofs.Math.Seq.{take-set-lt}
use Rattle.mbj_ring.specs.declared.ring.TheConstants.{CELLS}
use Rattle.mbj_ring.specs.declared.ring.Ring.TheInside.{Inside}
use Rattle.mbj_ring.specs.Ring.{RingState, ring, all_values, with_committed, with_open_at, with_open_last, with_value_at, without_first}
use Rattle.mbj_ring.specs.Inside.Laid.{from_on, in_order, found, present, filled, state_of, IsRing}
use Rattle.mbj_ring.specs.Inside.Cells.{IsFilled}
use Rattle.mbj_ring.specs.Inside.CellLends.{with_value}
use Rattle.mbj_ring.proofs.Elements.{get_drop, get_take, get_some, no_length, take_further}
use Rattle.mbj_ring.proofs.Places.{wraps, from_on-get, from_on-set, from_on-step, present-filled, get-filled, filled-more, filled-set, filled-less, all_empty, from_start_empty}

module _ {X : Type 0} (r : Inside X) where
  -- the committed values and the open ones are those in the cells
  pub all_found : all_values (state_of r) ≡ found r
  all_found = take-append-drop r.len (found r)

  -- cells that begin with the values make a ring of them
  pub made : (xs : List X) → length r.cells.held ≡ CELLS → r.first < CELLS → in_order r ≡ filled xs CELLS → length xs ≡ r.len + r.open_len → length xs ≤ CELLS → IsRing r × (found r ≡ xs)
  unfolding found
  made xs cells first laid count room =
      let is : found r ≡ xs = ap present laid ∙ present-filled xs CELLS in
      (record { cells = cells; within = (subst (λ l. length l ≤ CELLS) (sym (all_found ∙ is)) room, first); laid = laid ∙ ap (λ l. filled l CELLS) (sym is); count = ap length is ∙ count }, is)

module _ {X : Type 0} (r : Inside X) (h : IsRing r) where
  abbrev xs : List X
  xs = found r

  abbrev place : ℕ → ℕ
  place i = (r.first + i) % CELLS

  abbrev first : r.first < CELLS
  first = h.within.1

  pub room : length xs ≤ CELLS
  room = subst (λ l. length l ≤ CELLS) (all_found r) h.within.0

  pub least : r.len ≤ length xs
  least = omega (arith, h.count)

  -- the cell at the place of a number holds what the list has there
  pub reads : (i : ℕ) → i < CELLS → get_or r.cells.held (place i) None ≡ slice_get xs i
  reads i lt = sym (from_on-get r.cells.held CELLS r.first h.cells first i (place i) None lt (wraps r.first i CELLS first lt)) ∙ ap (λ l. get_or l i None) h.laid ∙ get-filled xs CELLS i

  -- with no value left, each cell is empty
  pub emptied : length xs ≡ 0 → r.cells.held ≡ replicate CELLS None
  emptied none = all_empty r.cells.held CELLS r.first h.cells first (h.laid ∙ ap (λ l. filled l CELLS) (no_length xs none))

  -- s is r but for some of the fields
  module _ (s : Inside X) where
    placed : s.first ≡ r.first → s.first < CELLS
    placed same = subst (λ k. k < CELLS) (sym same) first

    seen : (n p : ℕ) (l : List X) → found s ≡ l → s.len ≡ n → s.first ≡ p → state_of s ≡ ring (take n l) (drop n l) p
    seen n p l is len same = λ j. ring (take (len j) (is j)) (drop (len j) (is j)) (same j)

    -- one cell is written
    order-set : (i : ℕ) (c : Option X) → i < CELLS → s.first ≡ r.first → s.cells.held ≡ set r.cells.held (place i) c → in_order s ≡ set (filled xs CELLS) i c
    order-set i c lt same held =
        (λ j. from_on (same j) (held j)) ∙ from_on-set r.cells.held CELLS r.first h.cells first i (place i) c lt (wraps r.first i CELLS first lt) ∙ ap (λ l. set l i c) h.laid

    written : (i : ℕ) (x : X) → i < length xs → s.first ≡ r.first → s.len ≡ r.len → s.open_len ≡ r.open_len → s.cells.held ≡ set r.cells.held (place i) (Some x)
        → IsRing s × (found s ≡ set xs i x)
    written i x within same len opens held =
        let fits = room in let count = h.count in made s (set xs i x) (ap length held ∙ length-set r.cells.held (place i) (Some x) ∙ h.cells) (placed same)
        (order-set i (Some x) (omega arith) same held ∙ filled-set xs CELLS i x within) (omega (arith, length-set xs i x)) (omega (arith, length-set xs i x))

    -- the next cell is opened
    pub opened : (x : X) → length xs < CELLS → s.first ≡ r.first → s.len ≡ r.len → s.open_len ≡ r.open_len + 1 → s.cells.held ≡ set r.cells.held (place (length xs)) (Some x)
        → IsRing s × (state_of s ≡ with_open_last (state_of r) x)
    opened x more same len opens held =
        let long : length (xs ++ x ∷ []) ≡ length xs + 1 = length-append xs (x ∷ []) in let count = h.count in
        let on = made s (xs ++ x ∷ []) (ap length held ∙ length-set r.cells.held (place (length xs)) (Some x) ∙ h.cells) (placed same)
        (order-set (length xs) (Some x) more same held ∙ filled-more xs CELLS x more)
        (omega arith) (omega arith) in (
          on.0,
          seen r.len r.first (xs ++ x ∷ []) on.1 len same
              ∙ (λ j. ring (take-append-le r.len xs (x ∷ []) least j) (drop-append-le r.len xs (x ∷ []) least j) r.first),
        )

    -- open value i is written over
    pub written_open : (i : ℕ) (x : X) → r.len + i < length xs → s.first ≡ r.first → s.len ≡ r.len → s.open_len ≡ r.open_len → s.cells.held ≡ set r.cells.held (place (r.len + i)) (Some x)
        → IsRing s × (state_of s ≡ with_open_at (state_of r) i x)
    written_open i x there same len opens held =
        let on = written (r.len + i) x there same len opens held in
        (on.0, seen r.len r.first (set xs (r.len + i) x) on.1 len same ∙ (λ j. ring (take-set-le r.len xs (r.len + i) x (omega arith) j) (drop-set-add r.len xs i x j) r.first))

    -- a committed value is written over
    pub written_value : (i : ℕ) (x : X) → i < r.len → s.first ≡ r.first → s.len ≡ r.len → s.open_len ≡ r.open_len → s.cells.held ≡ set r.cells.held (place i) (Some x)
        → IsRing s × (state_of s ≡ with_value_at (state_of r) i x)
    written_value i x live same len opens held =
        let enough = least in let on = written i x (omega arith) same len opens held in
        (on.0, seen r.len r.first (set xs i x) on.1 len same ∙ (λ j. ring (take-set-lt r.len xs i x live j) (drop-set-lt r.len xs i x live j) r.first))

    -- the first n open values are committed: only the border between both lists moves
    pub committed : (n : ℕ) → s.first ≡ r.first → s.len ≡ r.len + n → s.len + s.open_len ≡ r.len + r.open_len → s.cells.held ≡ r.cells.held
        → IsRing s × (state_of s ≡ with_committed (state_of r) n)
    committed n same len all held =
        let on = made s xs (ap length held ∙ h.cells) (placed same) ((λ j. from_on (same j) (held j)) ∙ h.laid) (h.count ∙ sym all) room in
        (on.0, seen (r.len + n) r.first xs on.1 len same ∙ (λ j. ring (take_further xs r.len n j) (sym (drop-drop n r.len xs) j) r.first))

    -- the first value is taken out
    pub popped : (y : X) (ys : List X) → xs ≡ y ∷ ys → s.first ≡ place 1 → s.len + 1 ≡ r.len → s.open_len ≡ r.open_len → s.cells.held ≡ set r.cells.held r.first None
        → IsRing s × (state_of s ≡ without_first (state_of r))
    popped y ys is next less opens held =
        let cs = set r.cells.held r.first None in let long = length-set r.cells.held r.first None ∙ h.cells in let one = ap length is in let fits = room in let count = h.count in
        let turn = wraps r.first 1 CELLS first (omega arith) in
        let out : from_on r.first cs ≡ set (filled (y ∷ ys) CELLS) 0 None =
        from_on-set r.cells.held CELLS r.first h.cells first 0 r.first None (omega arith) (first, inl (omega arith)) ∙ ap (λ l. set l 0 None) (h.laid ∙ ap (λ l. filled l CELLS) is) in
        let on = made s ys (ap length held ∙ long) (subst (λ k. k < CELLS) (sym next) turn.0)
        ((λ j. from_on (next j) (held j)) ∙ from_on-step cs CELLS r.first long first (place 1) None turn ∙ ap (λ l. drop 1 l ++ take 1 l) out ∙ filled-less y ys CELLS (omega arith))
        (omega arith) (omega arith) in
        let step : r.len ≡ suc s.len = omega arith in
        (on.0, seen s.len (place 1) ys on.1 refl next ∙ sym (λ j. ring (drop 1 (take (step j) (is j))) (drop (step j) (is j)) (place 1)))

-- empty cells make a ring with nothing in it
pub fresh : {X : Type 0} (s : Inside X) → s.first ≡ 0 → s.len ≡ 0 → s.open_len ≡ 0 → s.cells.held ≡ replicate CELLS None → IsRing s × (state_of s ≡ ring [] [] 0)
fresh {X = X} s start len opens held =
    let on = made s [] (ap length held ∙ length-replicate {A = Option X} CELLS None) (omega arith) ((λ j. from_on (start j) (held j)) ∙ from_start_empty CELLS)
    (omega arith) (omega arith) in
    (on.0, λ j. ring (take (len j) (on.1 j)) (drop (len j) (on.1 j)) (start j))

-- the state v is what a contract sees of the fields
module _ {X : Type 0} (r : Inside X) (h : IsRing r) (v : RingState X) (view : state_of r ≡ v) where
  pub value_count : length v.values ≡ r.len
  value_count = ap (λ s. length s.values) (sym view) ∙ length-take-le r.len (found r) (least r h)

  pub open_count : length v.opened ≡ r.open_len
  open_count = ap (λ s. length s.opened) (sym view) ∙ length-drop r.len (found r) ∙ (omega (arith, h.count))

  pub all_count : length (all_values v) ≡ length (found r)
  all_count = ap (λ s. length (all_values s)) (sym view) ∙ ap length (all_found r)

-- open value i, which stands at the place p
module _ {X : Type 0} (r : Inside X) (h : IsRing r) (i p : ℕ) (there : i < r.open_len) (at : p ≡ (r.first + (r.len + i)) % CELLS) where
  within_found : r.len + i < length (found r)
  within_found = omega (arith, h.count)

  open_fits : r.len + i < CELLS
  open_fits = omega (arith, room r h, within_found)

  pub open_read : get_or r.cells.held p None ≡ slice_get (state_of r).opened i
  open_read = ap (λ k. get_or r.cells.held k None) at ∙ reads r h (r.len + i) open_fits ∙ sym (get_drop (found r) r.len i)

  pub open_filled : IsFilled r.cells.held p
  open_filled = let x = get_some (found r) (r.len + i) within_found in (x.0, ap (λ k. get_or r.cells.held k None) at ∙ reads r h (r.len + i) open_fits ∙ x.1)

  pub open_written : (x : X) → let s = record r { cells = with_value r.cells p x } in IsRing s × (state_of s ≡ with_open_at (state_of r) i x)
  open_written x = written_open r h (record r { cells = with_value r.cells p x }) i x within_found refl refl refl (ap (λ k. set r.cells.held k (Some x)) at)

-- value i, which stands at the place p
module _ {X : Type 0} (r : Inside X) (h : IsRing r) (i p : ℕ) (live : i < r.len) (at : p ≡ (r.first + i) % CELLS) where
  fits : i < CELLS
  fits = omega (arith, least r h, room r h)

  pub live_read : get_or r.cells.held p None ≡ slice_get (state_of r).values i
  live_read = ap (λ k. get_or r.cells.held k None) at ∙ reads r h i fits ∙ sym (get_take (found r) r.len i live)

  pub live_filled : IsFilled r.cells.held p
  live_filled = let x = get_some (found r) i (omega (arith, least r h)) in (x.0, ap (λ k. get_or r.cells.held k None) at ∙ reads r h i fits ∙ x.1)

  pub live_written : (x : X) → let s = record r { cells = with_value r.cells p x } in IsRing s × (state_of s ≡ with_value_at (state_of r) i x)
  live_written x = written_value r h (record r { cells = with_value r.cells p x }) i x live refl refl refl (ap (λ k. set r.cells.held k (Some x)) at)
