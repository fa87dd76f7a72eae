-- Places of seats, one after another.
use Rattle.std.proofs.Common.{◌≡◌, ◌<◌, ◌+◌, ◌++◌, ℕ, zero, suc, true, false, List, [], ◌∷◌, Option, None, Some, length, take, drop, map, set, slice_get, slice_index_or, refl, sym, ap, ◌∙◌, arith}
use Rattle.std.specs.Prelude.{is_some}
use Rattle.mbj_c.specs.declared.seat_handle.SeatHandle.{SeatHandle}
use Rattle.mbj_c.specs.Seats.{SeatState, has_seat, new_seat, new_seats}
use Rattle.mbj_c.specs.Places.{seat_in}

-- a place that has the same seat as before
pub same-set : (ps : List SeatHandle) (i : ℕ) (d h : SeatHandle) → h.seat ≡ (slice_index_or ps i d).seat → map seat_in (set ps i h) ≡ map seat_in ps
same-set [] i d h e = refl
same-set (p ∷ ps) zero d h e = ap (λ s. s ∷ map seat_in ps) e
same-set (p ∷ ps) (suc i) d h e = ap (λ l. p.seat ∷ l) (same-set ps i d h e)

-- the seat at a place
pub seat-at : (ps : List SeatHandle) (i : ℕ) (d : SeatHandle) → i < length ps → slice_get (map seat_in ps) i ≡ Some (slice_index_or ps i d).seat
seat-at [] i d h = absurd (omega (arith, h))
seat-at (p ∷ ps) zero d h = refl
seat-at (p ∷ ps) (suc i) d h = seat-at ps i d (omega (arith, h))

-- none of the places so far, and not this one
pub has-none : (ss : List (Option SeatState)) (i : ℕ) (o : Option SeatState) → has_seat (take i ss) ≡ false → slice_get ss i ≡ Some o
    → is_some o ≡ false → has_seat (take (suc i) ss) ≡ false
has-none [] i o none at gone = absurd (grind (arith, at))
has-none (None ∷ ss) zero o none at gone = refl
has-none (Some s ∷ ss) zero o none at gone = absurd (grind (arith, at, gone))
has-none (None ∷ ss) (suc i) o none at gone = has-none ss i o none at gone
has-none (Some s ∷ ss) (suc i) o none at gone = absurd (grind (arith, none))

-- this one
pub has-some : (ss : List (Option SeatState)) (i n : ℕ) (o : Option SeatState) → i < n → slice_get ss i ≡ Some o → is_some o ≡ true
    → has_seat (take n ss) ≡ true
has-some [] i n o below at there = absurd (grind (arith, at))
has-some (s ∷ ss) i zero o below at there = absurd (omega (arith, below))
has-some (None ∷ ss) zero (suc n) o below at there = absurd (grind (arith, at, there))
has-some (Some s ∷ ss) zero (suc n) o below at there = refl
has-some (None ∷ ss) (suc i) (suc n) o below at there = has-some ss i n o (omega (arith, below)) at there
has-some (Some s ∷ ss) (suc i) (suc n) o below at there = refl

-- one seat more is put
pub put-next : (all more : List SeatState) (ss : List (Option SeatState)) (i : ℕ) (v : SeatState) → drop i all ≡ v ∷ more → i < length ss
    → set (map Some (take i all) ++ drop i ss) i (Some v) ≡ map Some (take (suc i) all) ++ drop (suc i) ss
put-next [] more ss zero v e h = absurd (grind (arith, e))
put-next (a ∷ all) more [] zero v e h = absurd (omega (arith, h))
put-next (a ∷ all) more (s ∷ ss) zero v e h = ap (λ (l : List SeatState). map Some (take 1 l) ++ ss) (sym e)
put-next [] more ss (suc i) v e h = absurd (grind (arith, e))
put-next (a ∷ all) more [] (suc i) v e h = absurd (omega (arith, h))
put-next (a ∷ all) more (s ∷ ss) (suc i) v e h = ap (λ l. Some a ∷ l) (put-next all more ss i v e (omega (arith, h)))

-- one seat more of a front
pub new-more : (submitters p n : ℕ) → new_seats submitters p n ++ new_seat submitters (p + n) ∷ [] ≡ new_seats submitters p (suc n)
new-more submitters p zero = ap (λ (k : ℕ). new_seat submitters k ∷ []) (let e : p + 0 ≡ p = omega arith in e)
new-more submitters p (suc n) =
    ap (λ l. new_seat submitters p ∷ l)
    (ap (λ (k : ℕ). new_seats submitters (p + 1) n ++ new_seat submitters k ∷ []) (let e : p + suc n ≡ p + 1 + n = omega arith in e)
    ∙ new-more submitters (p + 1) n)

pub length-new_seats : (submitters p n : ℕ) → length (new_seats submitters p n) ≡ n
length-new_seats submitters p zero = refl
length-new_seats submitters p (suc n) = ap suc (length-new_seats submitters (p + 1) n)
