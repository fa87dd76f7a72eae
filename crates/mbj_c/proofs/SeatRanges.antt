-- The ranges that are kept of the jobs that are out.
use Rattle.std.proofs.Common.{◌≡◌, ◌≤◌, ◌+◌, ◌++◌, ℕ, zero, suc, List, [], ◌∷◌, None, Some, length, drop, map, set, slice_get, unwrap_or, refl, sym, ap, subst, ◌∙◌, arith}
use Rattle.std.proofs.lemmas.List.{drop-append-le, drop-drop, drop-map, map-append}
use Rattle.mbj_types.specs.declared.job.Job.{Job}
use Rattle.mbj_types.specs.declared.done.Done.{Done}
use Rattle.mbj_types.specs.Result.{result_of}
use Rattle.mbj_c.specs.declared.range.CipherRange.{CipherRange}
use Rattle.mbj_c.specs.Ranges.{given_range}
use Rattle.mbj_c.specs.Inside.Seated.{AreOut}
use Rattle.mbj_c.proofs.Ranges.{given-within}

-- the first range, written back as it was read
pub first-set : (ranges : List CipherRange) (range : CipherRange) → slice_get ranges 0 ≡ Some range → set ranges 0 range ≡ ranges
first-set [] range is = refl
first-set (r ∷ ranges) range is =
    let same : range ≡ r = cc in
    ap (λ s. s ∷ ranges) same

-- the first of what is behind n elements is element n
pub first_behind : {A : Type 0} (n : ℕ) (xs : List A) → slice_get (drop n xs) 0 ≡ slice_get xs n
first_behind zero xs = refl
first_behind (suc n) [] = refl
first_behind (suc n) (x ∷ xs) = first_behind n xs

pub some_is : {A : Type 0} (x y : A) → Some x ≡ Some y → x ≡ y
some_is x y e = ap (λ o. unwrap_or o x) e

-- one job more is out
pub out-more : (due : List Done) (handed : ℕ) (ranges : List CipherRange) (j : Job) → handed ≤ length due → AreOut (drop handed due) ranges
    → AreOut (drop handed (due ++ result_of j ∷ [])) (ranges ++ given_range j ∷ [])
out-more due handed ranges j few o = record {
  jobs = o.jobs ++ j ∷ [];
  results = drop-append-le handed due (result_of j ∷ []) few ∙ ap (λ ds. ds ++ result_of j ∷ []) o.results
      ∙ sym (map-append result_of o.jobs (j ∷ []));
  given = ap (λ rs. rs ++ given_range j ∷ []) o.given ∙ sym (map-append given_range o.jobs (j ∷ []));
}

-- the first one is out no longer
pub out-less : (due : List Done) (handed : ℕ) (ranges : List CipherRange) → AreOut (drop handed due) ranges
    → AreOut (drop (handed + 1) due) (drop 1 ranges)
out-less due handed ranges o = record {
  jobs = drop 1 o.jobs;
  results = sym (drop-drop 1 handed due) ∙ ap (drop 1) o.results ∙ drop-map result_of 1 o.jobs;
  given = ap (drop 1) o.given ∙ drop-map given_range 1 o.jobs;
}

fits-of : (jobs : List Job) (due : List Done) (ranges : List CipherRange) (d : Done) (r : CipherRange) → due ≡ map result_of jobs
    → ranges ≡ map given_range jobs → slice_get due 0 ≡ Some d → slice_get ranges 0 ≡ Some r → r.off + r.len ≤ length d.packet
fits-of [] due ranges d r results given done range =
    absurd (let e : Some d ≡ None = sym done ∙ ap (λ ds. slice_get ds 0) results in grind (arith, e))
fits-of (j ∷ jobs) due ranges d r results given done range =
    let is_done : d ≡ result_of j = some_is d (result_of j) (sym done ∙ ap (λ ds. slice_get ds 0) results) in
    let is_range : r ≡ given_range j = some_is r (given_range j) (sym range ∙ ap (λ rs. slice_get rs 0) given) in
    subst (λ (x : CipherRange × Done). x.0.off + x.0.len ≤ length x.1.packet) (λ i. (sym is_range i, sym is_done i)) (given-within j)

-- its range is within its packet
pub out-fits : (due : List Done) (handed : ℕ) (ranges : List CipherRange) (d : Done) (r : CipherRange) → AreOut (drop handed due) ranges
    → slice_get due handed ≡ Some d → slice_get ranges 0 ≡ Some r → r.off + r.len ≤ length d.packet
out-fits due handed ranges d r o done range =
    fits-of o.jobs (drop handed due) ranges d r o.results o.given (first_behind handed due ∙ done) range
