-- Counter blocks that rise step by step.
use Rattle.std.proofs.Common.{◌≡◌, ℕ, ◌+◌, ◌%◌, ◌^◌, ◌<◌, List, [], ◌∷◌, ◌++◌, length, take, drop, get_or, refl, sym, ap, ap₂, ◌∙◌, arith}
use Rattle.std.specs.Int.{w32, to_be_bytes, from_be_bytes}
use Rattle.std.proofs.lemmas.List.{length-take-le, take_at, drop_at}
use Rattle.std.proofs.lemmas.Nat.{from_be_bytes-to_be_bytes_4}
use Rattle.mbj_types.specs.Blocks.{xor_lists}
use Rattle.mbj_types.specs.Gcm.{inc32, gctr}
use Rattle.mbj_gcm.specs.Incremented.{incremented}

-- one step
pub incremented-1 : (b : List ℕ) → incremented b 1 ≡ inc32 b
unfolding incremented inc32
incremented-1 b = refl

-- one step more
pub inc32-incremented : (b : List ℕ) (n : ℕ) → length b ≡ 16 → inc32 (incremented b n) ≡ incremented b (n + 1)
unfolding incremented inc32
inc32-incremented b n size =
    let iv : List ℕ = take 12 b in
    let start : ℕ = from_be_bytes w32 (drop 12 b) in
    let number : ℕ = (start + n) % 2 ^ 32 in
    let many : length iv ≡ 12 = length-take-le 12 b (omega arith) in
    let next : (number + 1) % 2 ^ 32 ≡ (start + (n + 1)) % 2 ^ 32 = omega arith in
    ap₂ (λ xs k. xs ++ to_be_bytes w32 ((k + 1) % 2 ^ 32)) (take_at iv (to_be_bytes w32 number) 12 many)
    (ap (from_be_bytes w32) (drop_at iv (to_be_bytes w32 number) 12 many)
    ∙ from_be_bytes-to_be_bytes_4 number (omega arith))
    ∙ ap (λ (k : ℕ). iv ++ to_be_bytes w32 k) next

-- what xoring from the counter block after t on makes of the blocks from block j on
abbrev pub stream_from : (List ℕ → List ℕ) → List ℕ → ℕ → List (List ℕ) → List (List ℕ)
stream_from e t j = gctr e (incremented t (j + 1))

-- block j takes mask j
pub stream_from-cons : (e : List ℕ → List ℕ) (t : List ℕ) (outputs : List (List ℕ)) → length t ≡ 16
    → ((j : ℕ) → j < length outputs → get_or outputs j [] ≡ e (incremented t (j + 1)))
    → (j : ℕ) (p : List ℕ) (ps : List (List ℕ)) → j < length outputs
    → stream_from e t j (p ∷ ps) ≡ xor_lists p (get_or outputs j []) ∷ stream_from e t (j + 1) ps
stream_from-cons e t outputs size all j p ps lt =
    ap₂ (λ m k. xor_lists p m ∷ gctr e k ps) (sym (all j lt)) (inc32-incremented t (j + 1) size)
