-- The hand of a party, its cells and what its manager owes.
use Rattle.std.proofs.Common.{◌≡◌, ℕ, ◌-◌, ◌<◌, List, [], ◌∷◌, ◌++◌, Option, Some, None, slice_get, length, drop, refl, sym, ap, subst, ◌∙◌, arith, length-append}
use Rattle.std.proofs.lemmas.List.{map-append}
use lib.ListN.{length-map}
use Rattle.circular_buffer.specs.Buffer.{Buffer, buffer, keep_last}
use Rattle.mbj_types.specs.declared.done.Done.{Done}
use Rattle.mbj_front.specs.Seats.{IsFirst}
use Rattle.mbj_manager.specs.Machine.Stages.{Pending}
use Rattle.mbj_manager.specs.State.{ManagerState, after_get_completed, given_at}
use Rattle.mbj_work.specs.Inside.Holding.{cells_in, results_in}

abbrev tail_of : List Done → List Done
tail_of [] = []
tail_of (x ∷ xs) = xs

abbrev head_or : Done → List Done → Done
head_or d [] = d
head_or d (x ∷ xs) = x

-- the first result that is owed is that of the first cell in the hand
pub first_of : (hand : List (ℕ × Done)) (d : Done) (left : List Done) → d ∷ left ≡ results_in hand → (cell : ℕ) × IsFirst cell d hand
first_of [] d left e = absurd (let z = ap length e in omega (arith, z))
first_of (x ∷ hand) d left e = (x.0, (hand, ap (λ (y : Done). (x.0, y) ∷ hand) (sym (ap (head_or d) e))))

-- and the others are those of the rest of the hand
pub left_of : (hand more : List (ℕ × Done)) (cell : ℕ) (d : Done) (left : List Done) → d ∷ left ≡ results_in hand → hand ≡ (cell, d) ∷ more → left ≡ results_in more
left_of hand more cell d left e is = ap tail_of (e ∙ ap results_in is)

-- the results of a hand that got one more cell
pub results_with : (hand : List (ℕ × Done)) (cell : ℕ) (d : Done) → results_in (hand ++ (cell, d) ∷ []) ≡ results_in hand ++ d ∷ []
results_with hand cell d = map-append (λ x. x.1) hand ((cell, d) ∷ [])

-- a manager owes as many results as the hand has cells
pub owed_below : (hand : List (ℕ × Done)) (owed : List Done) (room : ℕ) → owed ≡ results_in hand → length hand < room → length owed < room
owed_below hand owed room is short = omega (arith, short, ap length is ∙ length-map hand (λ (x : ℕ × Done). x.1))

abbrev or_zero : Option ℕ → ℕ
or_zero None = 0
or_zero (Some n) = n

-- the first cell is that of the first pair of the hand
pub popped_first : (hand : List (ℕ × Done)) (d : Done) (room : ℕ) (cells : Buffer ℕ) (cell : ℕ) → (k : ℕ) × IsFirst k d hand → cells ≡ buffer (cells_in hand) room
    → Some cell ≡ slice_get cells.items 0 → IsFirst cell d hand
popped_first hand d room cells cell (k, (more, is)) are got =
    let same : cell ≡ k = ap or_zero (got ∙ ap (λ (b : Buffer ℕ). slice_get b.items 0) are ∙ ap (λ h. slice_get (cells_in h) 0) is) in
    subst (λ n. IsFirst n d hand) (sym same) (more, is)

-- which there is
pub popped_some : (hand : List (ℕ × Done)) (d : Done) (room : ℕ) (cells : Buffer ℕ) → (k : ℕ) × IsFirst k d hand → cells ≡ buffer (cells_in hand) room
    → None ≡ slice_get cells.items 0 → ⊥
popped_some hand d room cells (k, (more, is)) are got =
    let none : None ≡ Some k = got ∙ ap (λ (b : Buffer ℕ). slice_get b.items 0) are ∙ ap (λ h. slice_get (cells_in h) 0) is in cc

-- the cells without the first
pub popped_rest : (hand more : List (ℕ × Done)) (cell : ℕ) (d : Done) (room : ℕ) (cells : Buffer ℕ) → cells ≡ buffer (cells_in hand) room → hand ≡ (cell, d) ∷ more
    → buffer (drop 1 cells.items) cells.capacity ≡ buffer (cells_in more) room
popped_rest hand more cell d room cells are is =
    ap (λ (b : Buffer ℕ). buffer (drop 1 b.items) b.capacity) are ∙ ap (λ h. buffer (drop 1 (cells_in h)) room) is

-- a push if there is room
keeps_all : (room : ℕ) (xs : List ℕ) (c : ℕ) → length xs < room → keep_last room (xs ++ c ∷ []) ≡ xs ++ c ∷ []
keeps_all room xs c short = ap (λ (k : ℕ). drop k (xs ++ c ∷ [])) (let e : length (xs ++ c ∷ []) - room ≡ 0 = omega (arith, length-append xs (c ∷ [])) in e)

-- the cells after a push
pub cells_with : (hand : List (ℕ × Done)) (cell : ℕ) (d : Done) (room : ℕ) (cells : Buffer ℕ) → cells ≡ buffer (cells_in hand) room → length hand < room
    → buffer (keep_last cells.capacity (cells.items ++ cell ∷ [])) cells.capacity ≡ buffer (cells_in (hand ++ (cell, d) ∷ [])) room
cells_with hand cell d room cells is short =
    ap (λ (b : Buffer ℕ). buffer (keep_last b.capacity (b.items ++ cell ∷ [])) b.capacity) is
    ∙ ap (λ (l : List ℕ). buffer l room)
    (keeps_all room (cells_in hand) cell (let e = length-map hand (λ (x : ℕ × Done). x.0) in omega arith) ∙ sym (map-append (λ x. x.0) hand ((cell, d) ∷ [])))

-- if no result is given back the manager stays as it was
none_at : (owed : List Done) (left : List (List Pending)) (h : ManagerState) → (given_at owed left h).0 ≡ None → (given_at owed left h).1 ≡ h
none_at [] left h none = refl
none_at (d ∷ owed) [] h none = refl
none_at (d ∷ owed) ([] ∷ left) h none = absurd (let e : Some d ≡ None = none in grind (arith, e))
none_at (d ∷ owed) ((p ∷ ps) ∷ left) h none = refl

-- so that nothing is given back of it then
pub none_left : (old new : ManagerState) → (after_get_completed old).0 ≡ None → new ≡ (after_get_completed old).1 → (after_get_completed new).0 ≡ None
none_left old new none is = ap (λ h. (after_get_completed h).0) (is ∙ none_at old.owed old.machine.left old none) ∙ none
