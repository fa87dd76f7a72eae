-- Results beside the jobs that are left, and lists of lists.
use Rattle.std.proofs.Common.{◌≡◌, ℕ, ◌+◌, ◌≤◌, ◌<◌, suc, List, [], ◌∷◌, ◌++◌, length, map, get_or, slice_index_or, Vec, Global, Result, Ok, Err, IfOk, refl, ap, sym, ◌∙◌, arith, length-append, append-nil, append_assoc}
use Rattle.std.proofs.lemmas.List.{length-map}
use Rattle.std.proofs.lemmas.Simd.{map-map}
use Rattle.mbj_types.specs.declared.job.Job.{Job}
use Rattle.mbj_types.specs.declared.done.Done.{Done}
use Rattle.mbj_types.specs.Result.{result_of}
use Rattle.mbj_work.specs.declared.task.Task.{Task}
use Rattle.std.specs.declared.alloc.AllocError.{AllocError}

-- if a job is left, there is room for one more result than came back and is owed
pub room-for-one : (back owed : List Done) (left rest all : List Job) (job : Job) (room : ℕ)
    → (back ++ owed) ++ map result_of left ≡ map result_of all → left ≡ job ∷ rest → length all ≤ room → length (back ++ owed) + 1 ≤ room
room-for-one back owed left rest all job room order is fits =
    let lengths : length (back ++ owed) + length left ≡ length all
    = ap (λ n. length (back ++ owed) + n) (sym (length-map left result_of))
    ∙ sym (length-append (back ++ owed) (map result_of left)) ∙ ap length order ∙ length-map all result_of in
    let some : length left ≡ suc (length rest) = ap length is in
    omega (arith, lengths, some, fits)

-- and for all that came back and is owed
pub room-for-all : (done : List Done) (left all : List Job) (room : ℕ) → done ++ map result_of left ≡ map result_of all → length all ≤ room → length done ≤ room
room-for-all done left all room order fits =
    omega (arith, fits, sym (length-append done (map result_of left)) ∙ ap length order ∙ length-map all result_of)

-- all is done if nothing is left
pub all-done : {A C : Type 0} (f : A → C) (done all : List C) (left : List A) (count : ℕ) → done ++ map f left ≡ all → count ≡ 0 → count ≡ length left → done ≡ all
all-done f done all [] count was none is = sym (append-nil done) ∙ was
all-done f done all (a ∷ left) count was none is = absurd (omega (arith, none, is))

-- two lists are alike if f of each element of the one is g of that of the other
pub maps-alike : {A B C : Type 0} (f : A → C) (g : B → C) (xs : List A) (ys : List B) → length xs ≡ length ys
    → ((i : ℕ) (d : A) (e : B) → i < length ys → f (get_or xs i d) ≡ g (get_or ys i e)) → map f xs ≡ map g ys
maps-alike f g [] [] len each = refl
maps-alike f g [] (y ∷ ys) len each = let no : 0 ≡ suc (length ys) = len in let bad : ⊥ = omega (arith, no) in elim bad [ ]
maps-alike f g (x ∷ xs) [] len each = let no : suc (length xs) ≡ 0 = len in let bad : ⊥ = omega (arith, no) in elim bad [ ]
maps-alike f g (x ∷ xs) (y ∷ ys) len each =
    let all : suc (length xs) ≡ suc (length ys) = len in
    let first : f x ≡ g y = each 0 x y (omega arith) in
    ap (λ z. z ∷ map f xs) first
    ∙ ap (λ zs. g y ∷ zs) (maps-alike f g xs ys (omega (arith, all)) (λ i d e below. each (suc i) d e (omega (arith, below))))

-- the results of lists of jobs, by the tasks that have these lists
pub results-of-lists : {T L D : Type 0} (jobs_of : T → List Job) (list_of : L → List Job) (results_of : D → List Done)
    (tasks : List T) (lists : List L) (results : List D)
    → map jobs_of tasks ≡ map list_of lists
    → map results_of results ≡ map (λ t. map result_of (jobs_of t)) tasks
    → map results_of results ≡ map (λ l. map result_of (list_of l)) lists
results-of-lists jobs_of list_of results_of tasks lists results have made =
    made ∙ sym (map-map (map result_of) jobs_of tasks) ∙ ap (map (map result_of)) have ∙ map-map (map result_of) list_of lists

pub results-of-tasks : (tasks : Vec Task Global) (lists : Vec (Vec Job Global) Global) (result : Result (Vec (Vec Done Global) Global) AllocError)
    → map (λ t. t.jobs.items) tasks.items ≡ map (λ l. l.items) lists.items
    → IfOk result (λ rs. length rs.items ≡ length tasks.items)
    → IfOk result (λ rs. (i : ℕ) (d : Vec Done Global) (t : Task) → i < length tasks.items → (slice_index_or rs.items i d).items ≡ map result_of (slice_index_or tasks.items i t).jobs.items)
    → IfOk result (λ rs. map (λ r. r.items) rs.items ≡ map (λ l. map result_of l.items) lists.items)
results-of-tasks tasks lists (Err e) have len each = len
results-of-tasks tasks lists (Ok rs) have len each =
    results-of-lists (λ t. t.jobs.items) (λ l. l.items) (λ r. r.items) tasks.items lists.items rs.items have
    (maps-alike (λ r. r.items) (λ t. map result_of t.jobs.items) rs.items tasks.items len each)

-- one item more is done of those that are left
pub moves-on : {A C : Type 0} (f : A → C) (done done' : List C) (left left' : List A) (a : A) (all : List C)
    → done ++ map f left ≡ all → left ≡ a ∷ left' → done' ≡ done ++ f a ∷ [] → done' ++ map f left' ≡ all
moves-on f done done' left left' a all was steps more =
    ap (λ l. l ++ map f left') more ∙ append_assoc done (f a ∷ []) (map f left') ∙ ap (λ l. done ++ map f l) (sym steps) ∙ was
