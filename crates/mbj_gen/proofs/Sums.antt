-- What the first results come to.
use Rattle.std.proofs.Common.{◌≡◌, ℕ, ◌+◌, ◌-◌, ◌*◌, ◌≤◌, Bool, true, false, cond, List, [], ◌∷◌, ◌++◌, length, take, slice_get, Some, refl, ap, ap₂, ◌∙◌, sym, subst, arith, length-append}
use Rattle.std.specs.Int.{from_bool}
use Rattle.std.proofs.lemmas.List.{take_all}
use Rattle.sha2.specs.Hashers.{Holds256}
use Rattle.sha2.specs.Sha256.{sha256}
use Rattle.mbj_types.specs.declared.done.Done.{Done}
use Rattle.mbj_text.specs.Line.{done_line, text}
use Rattle.mbj_gen.specs.Summary.{accepted_count, is_ok, summary_lines}
use Rattle.mbj_gen.specs.Sums.{IsSumOf}
use Rattle.mbj_gen.specs.declared.line.SummaryLine.TheVariants as told
use Rattle.mbj_gen.specs.declared.summary.Summary.{Summary}
use Rattle.mbj_gen.proofs.ResultLines.{accepted-next, text-next}

-- a test as a number
pub number-of-test : (b : Bool) → from_bool b ≡ cond b 1 0
number-of-test true = refl
number-of-test false = refl

-- one more result
pub sum-next : (results : List Done) (old new : Summary) (done : Done) (ok : Bool) (one : ℕ) (line : List ℕ)
    → IsSumOf results old → slice_get results old.count ≡ Some done → ok ≡ is_ok done.status → one ≡ cond ok 1 0
    → line ≡ done_line old.count done → ((m : List ℕ) → Holds256 old.hasher m → Holds256 new.hasher (m ++ line))
    → new.count ≡ old.count + 1 → new.accepted ≡ old.accepted + one → new.bytes ≡ old.bytes + length line
    → IsSumOf results new
sum-next results old new done ok one line is at ok_is one_is line_is update count_is good_is size_is =
    let n : ℕ = old.count in
    let before : List ℕ = text (take n results) in
    let next : text (take (n + 1) results) ≡ before ++ line = text-next n results done at ∙ ap (λ (l : List ℕ). before ++ l) (sym line_is) in
    let all : text (take new.count results) ≡ before ++ line = ap (λ (k : ℕ). text (take k results)) count_is ∙ next in
    let good : accepted_count (take new.count results) ≡ accepted_count (take (n + 1) results) = ap (λ (k : ℕ). accepted_count (take k results)) count_is in
    let Holds : List ℕ → Type 0 = λ m. Holds256 new.hasher m in
    record {
      good_is = good_is ∙ ap₂ (λ (k i : ℕ). k + i) is.good_is one_is ∙ sym (good ∙ accepted-next n results done ok at ok_is);
      size_is = size_is ∙ ap (λ (k : ℕ). k + length line) is.size_is ∙ sym (ap length all ∙ length-append before line);
      holds = subst Holds (sym all) (update before is.holds);
    }

-- all results
pub sum-all : (results : List Done) (s : Summary) (digest : List ℕ) → IsSumOf results s
    → s.count ≡ length results → ((m : List ℕ) → Holds256 s.hasher m → digest ≡ sha256 m)
    → told.Jobs s.count ∷ told.Accepted s.accepted ∷ told.Invalid (s.count - s.accepted) ∷ told.Bytes s.bytes ∷ told.Sha256 digest ∷ []
    ≡ summary_lines results
sum-all results s digest is all finalize =
    let whole : take s.count results ≡ results = take_all s.count results (omega arith) in
    let good_is : s.accepted ≡ accepted_count results = is.good_is ∙ ap (λ (ds : List Done). accepted_count ds) whole in
    let size_is : s.bytes ≡ length (text results) = is.size_is ∙ ap (λ (ds : List Done). length (text ds)) whole in
    let digest_is : digest ≡ sha256 (text results) = finalize _ is.holds ∙ ap (λ (ds : List Done). sha256 (text ds)) whole in
    cc (all, good_is, size_is, digest_is)
