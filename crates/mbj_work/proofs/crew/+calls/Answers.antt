-- The first of the submitters has its jobs, and so have the others, of whom there is one less.
use Rattle.std.proofs.Common.{rules, arith, ◌≡◌, ◌<◌, ℕ, suc, List, [], ◌∷◌, length, slice_index_or, true, sym, subst, ◌∙◌}
use Rattle.std.specs.List.{AllZip}
use Rattle.std.specs.Bool.{◌==◌}
use Rattle.mbj_work.specs.Inside.Runs.{HasJobs, HasResults}
use Rattle.mbj_work.specs.declared.submitter.Submitter.{Submitter}
use Rattle.mbj_work.proofs.crew.+calls.Goals as goal

-- a length that was found to be none
is_none : (n : ℕ) → (n == 0) ≡ true → n ≡ 0
is_none n is = search rules

-- nothing has changed if there is no submitter
none_changed : (xs : List Submitter) → length xs ≡ 0 → AllZip HasResults xs xs
none_changed [] none = tt
none_changed (x ∷ xs) none = absurd (omega (arith, none))

-- the first submitter has its results, and the others have theirs
all_have : (olds : List Submitter) (x y : Submitter) (xs ys : List Submitter) → olds ≡ x ∷ xs → HasResults x y → AllZip HasResults xs ys → AllZip HasResults olds (y ∷ ys)
all_have olds x y xs ys is first others = subst (λ (l : List Submitter). AllZip HasResults l (y ∷ ys)) (sym is) (first, others)

pub returns-in_default : goal.returns-in_default
returns-in_default g t c = none_changed c.args.submitters.now c.in_default.ensures.cases

pub run-requires : goal.run-requires
run-requires g t c =
    let split = c.in-Some.ensures.cases in
    let some : 0 < length c.args.submitters.now = omega (arith, split.1) in
    rw split.0 at (c.requires 0 c.in-Some.first.now some)

pub returns-then-is_empty : goal.returns-then-is_empty
returns-then-is_empty g t c =
    let none : length c.in-Some.rest.now ≡ 0 = is_none _ (sym c.is_empty.ensures ∙ c.if-is_empty.true) in
    all_have c.args.submitters.now c.in-Some.first.now _ c.in-Some.rest.now _ c.in-Some.ensures.cases.0 c.run.ensures (none_changed c.in-Some.rest.now none)

pub returns : goal.returns
returns g t c = rw c.in-Some.ensures.cases.0 (search rules, search rules)

pub join_mut-requires-after_bounds : goal.join_mut-requires-after_bounds
join_mut-requires-after_bounds g t c κs within =
    let split = c.in-Some.ensures.cases in
    let some : 0 < length c.args.submitters.now = omega (arith, split.1) in
    let first : HasJobs c.args.front.now c.in-Some.first.now = rw split.0 at (c.requires 0 c.in-Some.first.now some) in
    let within' : (k : ℕ) → k < length c.in-Some.rest.now → suc k < length c.args.submitters.now = λ k lt. omega (arith, split.1, lt) in
    let others : (k : ℕ) (d : Submitter) → k < length c.in-Some.rest.now → HasJobs c.args.front.now (slice_index_or c.in-Some.rest.now k d)
    = λ k d lt. rw split.0 at (c.requires (suc k) d (within' k lt)) in
    ((search rules, search rules, first), (omega (arith, split.1, c.decreases), ((λ a m. m), ((λ a m. m), ((search rules, search rules, others), (search rules, search rules))))))
