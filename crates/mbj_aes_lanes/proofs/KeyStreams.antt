-- Output blocks that are the key stream of counters, and texts that are xored with them.
use Rattle.std.proofs.Common.{◌≡◌, ℕ, ◌+◌, ◌%◌, ◌^◌, ◌*◌, ◌<◌, ◌≤◌, List, [], ◌∷◌, length, get_or, inl, inr, refl, sym, subst, ap₂, arith}
use Rattle.std.proofs.lemmas.Bool.{cases_lt}
use Rattle.mbj_types.specs.Blocks.{xor_lists}
use Rattle.mbj_types.specs.Modes.{ctr_blocks}
use Rattle.mbj_blocks.specs.Walked.{Walked}
use Rattle.mbj_blocks.proofs.Walk.{walk_over}
use Rattle.mbj_aes_lanes.specs.Inside.KeyStream.{IsKeyStream}

-- what xoring from counter t on makes of the blocks from block j on
abbrev pub stream_from : (List ℕ → List ℕ) → ℕ → ℕ → List (List ℕ) → List (List ℕ)
stream_from e t j = ctr_blocks e ((t + j) % 2 ^ 128)

-- block j takes mask j
pub stream_from-cons : (e : List ℕ → List ℕ) (t : ℕ) (outputs : List (List ℕ)) → IsKeyStream e t outputs → (j : ℕ) (p : List ℕ)
    (ps : List (List ℕ)) → j < length outputs
    → stream_from e t j (p ∷ ps) ≡ xor_lists p (get_or outputs j []) ∷ stream_from e t (j + 1) ps
stream_from-cons e t outputs all j p ps lt =
    let more : ((t + j) % 2 ^ 128 + 1) % 2 ^ 128 ≡ (t + (j + 1)) % 2 ^ 128 = omega arith in
    ap₂ (λ m (u : ℕ). xor_lists p m ∷ ctr_blocks e u ps) (sym (all j lt)) more

-- behind a batch that is not full the text is over
pub stream_on : (e : List ℕ → List ℕ) (t many all i j : ℕ) (text whole : List ℕ) → many ≤ all → (many ≡ all → i ≡ j)
    → (many < all → length text ≤ 16 * i) → (many < all → length text ≤ 16 * j)
    → Walked (stream_from e t many) text i whole → Walked (stream_from e t all) text j whole
stream_on e t many all i j text whole most same over_i over_j walked =
    elim (cases_lt many all) [
      | inl fewer ↦ walk_over (stream_from e t many) (stream_from e t all) text whole i j refl refl (over_i fewer) (over_j fewer) walked
      | inr full ↦
          let is : many ≡ all = omega arith in
          let P : ℕ → ℕ → Type 0 = λ m k. Walked (stream_from e t m) text k whole in
          subst (λ (k : ℕ). P all k) (same is) (subst (λ (m : ℕ). P m i) is walked)
    ]
