-- The words that key expansion writes, one after another.
use Rattle.std.proofs.Common.{◌≡◌, ℕ, suc, ◌+◌, ◌-◌, ◌*◌, ◌≤◌, List, ◌++◌, length, take, drop, refl, ap, ap₂, ◌∙◌, sym, arith}
use Rattle.std.proofs.lemmas.List.{take-append-le, drop-append-le, take_all, length-drop}
use Rattle.std.proofs.Math.Seq.{drop-append-add}
use Rattle.mbj_types.specs.Blocks.{xor_lists}
use Rattle.mbj_types.specs.Aes.{word, schedule_term, schedule}
use Rattle.mbj_aes.specs.Bytes.{IsBytes}
use Rattle.mbj_aes.proofs.KeyLists.{IsSchedule, IsSchedule-schedule}

-- a word of the first part of a list
word-append : (w rest : List ℕ) (i : ℕ) → 4 * i + 4 ≤ length w → word (w ++ rest) i ≡ word w i
word-append w rest i inside =
    ap (take 4) (drop-append-le (4 * i) w rest (omega arith))
    ∙ take-append-le 4 (drop (4 * i) w) rest (omega (arith, length-drop (4 * i) w))

-- a term whose last word stands in the first part of a list
schedule_term-append : (nk i : ℕ) (w rest : List ℕ) → 1 ≤ i → 4 * i ≤ length w
    → schedule_term nk (w ++ rest) i ≡ schedule_term nk w i
schedule_term-append nk i w rest after inside =
    let last : word (w ++ rest) (i - 1) ≡ word w (i - 1) = word-append w rest (i - 1) (omega arith) in
    rw last refl

-- a word written behind w over four bytes of the rest
put-word : (w word rest : List ℕ) (at : ℕ) → length w ≡ at → take at (w ++ rest) ++ word ++ drop (at + 4) (w ++ rest) ≡ (w ++ word) ++ drop 4 rest
put-word w word rest at size =
    let behind : at + 4 ≡ length w + 4 = omega arith in
    ap₂ (λ xs ys. xs ++ word ++ ys) (take-append-le at w rest (omega arith) ∙ take_all at w (omega arith))
    (ap (λ n. drop n (w ++ rest)) behind ∙ drop-append-add w rest 4)

-- the words before word i, and a rest: word i is written over four bytes of that
pub schedule-next : (nk i : ℕ) (key bytes rest : List ℕ) → 1 ≤ nk → nk ≤ i → length key ≡ 4 * nk → IsBytes key
    → bytes ≡ schedule nk key (i - nk) ++ rest
    → take (4 * i) bytes ++ xor_lists (word bytes (i - nk)) (schedule_term nk bytes i) ++ drop (4 * i + 4) bytes
    ≡ schedule nk key (i + 1 - nk) ++ drop 4 rest
unfolding schedule
schedule-next nk i key bytes rest some after size are_bytes e =
    let w : List ℕ = schedule nk key (i - nk) in
    let done : IsSchedule (nk + (i - nk)) w = IsSchedule-schedule nk key (i - nk) some size are_bytes in
    let next : List ℕ = xor_lists (word w (i - nk)) (schedule_term nk w i) in
    let made : xor_lists (word (w ++ rest) (i - nk)) (schedule_term nk (w ++ rest) i) ≡ next =
    ap₂ xor_lists (word-append w rest (i - nk) (omega arith))
    (schedule_term-append nk i w rest (omega arith) (omega arith)) in
    let number : nk + (i - nk) ≡ i = omega arith in
    let more : i + 1 - nk ≡ suc (i - nk) = omega arith in
    rw e
    (ap (λ x. take (4 * i) (w ++ rest) ++ x ++ drop (4 * i + 4) (w ++ rest)) made
    ∙ put-word w next rest (4 * i) (omega arith)
    ∙ ap (λ x. x ++ drop 4 rest)
    (sym (ap (schedule nk key) more ∙ ap (λ k. w ++ xor_lists (word w (i - nk)) (schedule_term nk w k)) number)))

-- the words of the key alone
pub schedule-none : (nk : ℕ) (key : List ℕ) → schedule nk key (nk - nk) ≡ key
unfolding schedule
schedule-none nk key = let none : nk - nk ≡ 0 = omega arith in rw none refl
