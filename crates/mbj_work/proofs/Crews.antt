-- The seats of a new front, and the results of all submitters.
use Rattle.std.proofs.Common.{◌≡◌, ℕ, ◌+◌, All, false, List, [], ◌∷◌, ◌++◌, length, length-append, map, suc, sym, Some, None, Option, subst, IfSome, refl, ap, ◌∙◌, arith, Vec, Global}
use Rattle.std.proofs.lemmas.List.{length-map, map-append}
use Rattle.std.proofs.lemmas.List.Elements.{All-head, All-tail}
use Rattle.std.specs.List.{AllZip}
use Rattle.std.specs.Prelude.{slice_get}
use Rattle.mbj_types.specs.declared.job.Job.{Job}
use Rattle.mbj_types.specs.declared.done.Done.{Done}
use Rattle.mbj_types.specs.Result.{result_of}
use Rattle.mbj_core.specs.Parties.{new_party}
use Rattle.mbj_front.specs.declared.seat.PartySeat.{PartySeat}
use Rattle.mbj_front.specs.declared.front.SharedFront.{SharedFront}
use Rattle.mbj_front.specs.declared.standard.Standard.{Standard}
use Rattle.mbj_front.specs.Seats.{view_of, IsOf, IsIssued}
use Rattle.mbj_work.specs.declared.submitter.Submitter.{Submitter}
use Rattle.mbj_work.specs.Inside.Runs.{AreSeatsFrom, HasResults, IsDone}

seats_after : (front : SharedFront Job Done Standard) (n : ℕ) (seats : List (PartySeat Job Done))
    → ((p : ℕ) (seat : PartySeat Job Done) → slice_get seats p ≡ Some seat → IsOf front seat × (view_of seat ≡ new_party (n + p))) → AreSeatsFrom front n seats
seats_after front n [] each = tt
seats_after front n (seat ∷ seats) each = (
  (let first = each 0 seat refl in (first.0, first.1 ∙ ap new_party (let e : n + 0 ≡ n = omega arith in e))),
  seats_after front (n + 1) seats (λ p s here. let next = each (suc p) s here in (next.0, next.1 ∙ ap new_party (let e : n + suc p ≡ n + 1 + p = omega arith in e))),
)

-- the seats of a new front are those of its parties in the order of their numbers
pub issued_seats : (front : SharedFront Job Done Standard) (seats : List (PartySeat Job Done)) → IsIssued front seats → AreSeatsFrom front 0 seats
issued_seats front seats issued = seats_after front 0 seats
    (λ p seat here. let is = issued p seat here in (is.0, is.1 ∙ ap new_party (let e : p ≡ 0 + p = omega arith in e)))

pub map_same : {X : Type 0} (xs : List X) → map (λ x. x) xs ≡ xs
map_same [] = refl
map_same (x ∷ xs) = ap (λ ys. x ∷ ys) (map_same xs)

abbrev head_of : {X : Type 0} → List (Option X) → Option X
head_of [] = None
head_of (x ∷ xs) = x

abbrev tail_of : {X : Type 0} → List (Option X) → List (Option X)
tail_of [] = []
tail_of (x ∷ xs) = xs

-- each submitter has the results of its list, if there was memory for all parties
pub results_of_all : (olds news : List Submitter) (lists : List (Vec Job Global)) → map (λ s. s.jobs) olds ≡ map Some lists → AllZip HasResults olds news
    → All IsDone news → map (λ s. s.results.items) news ≡ map (λ l. map result_of l.items) lists
results_of_all [] [] [] same each done = refl
results_of_all [] [] (l ∷ lists) same each done = absurd (let z = ap length same in omega (arith, z))
results_of_all [] (x ∷ news) lists same each done = absurd each
results_of_all (s ∷ olds) [] lists same each done = absurd each
results_of_all (s ∷ olds) (x ∷ news) [] same each done = absurd (let z = ap length same in omega (arith, z))
results_of_all (s ∷ olds) (x ∷ news) (l ∷ lists) same each done =
    let first : x.results.items ≡ map result_of l.items
    = subst (λ (o : Option (Vec Job Global)). IfSome o (λ jobs. x.is_refused ≡ false → x.results.items ≡ map result_of jobs.items)) (ap head_of same) each.0
    (All-head IsDone x news done) in
    let more = results_of_all olds news lists (ap tail_of same) each.1 (All-tail IsDone x news done) in
    (λ i. first i ∷ more i)

-- and there are as many of them
pub as_many_results : (olds news : List Submitter) (lists : List (Vec Job Global)) → map (λ s. s.jobs) olds ≡ map Some lists → AllZip HasResults olds news
    → length news ≡ length lists
as_many_results olds news lists same each =
    sym (same_length olds news each) ∙ sym (length-map olds (λ s. s.jobs)) ∙ ap length same ∙ length-map lists Some
  where
    same_length : (xs ys : List Submitter) → AllZip HasResults xs ys → length xs ≡ length ys
    same_length [] [] both = refl
    same_length [] (y ∷ ys) both = absurd both
    same_length (x ∷ xs) [] both = absurd both
    same_length (x ∷ xs) (y ∷ ys) both = ap suc (same_length xs ys both.1)

-- the first of the seats
pub seat_first : (front : SharedFront Job Done Standard) (n : ℕ) (seat : PartySeat Job Done) (old rest : List (PartySeat Job Done))
    → AreSeatsFrom front n old → old ≡ seat ∷ rest → IsOf front seat × (view_of seat ≡ new_party n)
seat_first front n seat old rest seats is = (subst (AreSeatsFrom front n) is seats).0

-- the seats behind the first, if one more list has its submitter
pub seats_behind : (front : SharedFront Job Done Standard) (lists : List (Vec Job Global)) (l : Vec Job Global) (seat : PartySeat Job Done)
    (old rest : List (PartySeat Job Done)) → AreSeatsFrom front (length lists) old → old ≡ seat ∷ rest → AreSeatsFrom front (length (lists ++ l ∷ [])) rest
seats_behind front lists l seat old rest seats is =
    subst (λ n. AreSeatsFrom front n rest) (sym (length-append lists (l ∷ []))) (subst (AreSeatsFrom front (length lists)) is seats).1

pub count_behind : (lists : List (Vec Job Global)) (l : Vec Job Global) (seat : PartySeat Job Done) (old rest : List (PartySeat Job Done)) (n : ℕ)
    → length lists + length old ≡ n → old ≡ seat ∷ rest → length (lists ++ l ∷ []) + length rest ≡ n
count_behind lists l seat old rest n count is = omega (arith, length-append lists (l ∷ []), ap length is, count)

-- one more submitter, with its list of jobs
pub jobs_with : (old new : List Submitter) (s : Submitter) (lists : List (Vec Job Global)) (l : Vec Job Global) → map (λ s. s.jobs) old ≡ map Some lists
    → new ≡ old ++ s ∷ [] → s.jobs ≡ Some l → map (λ s. s.jobs) new ≡ map Some (lists ++ l ∷ [])
jobs_with old new s lists l jobs is one =
    ap (map (λ s. s.jobs)) is ∙ map-append (λ s. s.jobs) old (s ∷ []) ∙ ap (λ os. os ++ s.jobs ∷ []) jobs
    ∙ ap (λ o. map Some lists ++ o ∷ []) one ∙ sym (map-append Some lists (l ∷ []))
