-- What entries come to whose rounds each chain the next of some blocks (SP 800-38A, 6.2).
use Rattle.std.proofs.Common.{◌≡◌, ℕ, zero, suc, ◌+◌, List, [], length, drop, get_or, refl, sym, ap, ◌∙◌, arith}
use Rattle.std.proofs.lemmas.List.{drop_all, drop_more}
use Rattle.mbj_lane.specs.Rounds.{after}
use Rattle.mbj_types.specs.Blocks.{xor_lists, last_or}
use Rattle.mbj_types.specs.Modes.{cbc}

-- what a round leaves as it is, n rounds leave as it is
pub same-after : {E A : Type 0} (round : E → E) (f : E → A) → ((e : E) → f (round e) ≡ f e) → (n : ℕ) (e : E)
    → f (after round n e) ≡ f e
same-after round f same zero e = refl
same-after round f same (suc n) e = same-after round f same n (round e) ∙ same e

-- an entry with n rounds left and the chaining value c is `state n c`, and its next round takes the next of the parts
module _ {E : Type 0} (round : E → E) (chain : E → List ℕ) (state : ℕ → List ℕ → E) (cipher : List ℕ → List ℕ)
    (parts : List (List ℕ)) (shown : (n : ℕ) (c : List ℕ) → chain (state n c) ≡ c)
    (advanced : (n i : ℕ) (c : List ℕ) → i + suc n ≡ length parts
    → round (state (suc n) c) ≡ state n (cipher (xor_lists (get_or parts i []) c))) where
  -- n rounds, which are all that are left, from part i on
  chain-after : (n i : ℕ) (c : List ℕ) → i + n ≡ length parts
      → chain (after round n (state n c)) ≡ last_or c (cbc cipher c (drop i parts))
  chain-after zero i c at = shown 0 c ∙ ap (λ bs. last_or c (cbc cipher c bs)) (sym (drop_all i parts (omega arith)))
  chain-after (suc n) i c at =
      ap (λ e. chain (after round n e)) (advanced n i c at)
      ∙ chain-after n (i + 1) (cipher (xor_lists (get_or parts i []) c)) (omega arith)
      ∙ ap (λ bs. last_or c (cbc cipher c bs)) (sym (drop_more parts i [] (omega arith)))

  -- all rounds
  pub chain_end : (n : ℕ) (c : List ℕ) → n ≡ length parts → chain (after round n (state n c)) ≡ last_or c (cbc cipher c parts)
  chain_end n c all = chain-after n 0 c (omega arith)
