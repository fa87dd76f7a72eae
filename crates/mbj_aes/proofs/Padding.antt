-- Arrays whose first bytes alone count, and zeros after them.
use Rattle.std.proofs.Common.{◌≡◌, ℕ, ◌-◌, ◌≤◌, List, ◌++◌, length, take, replicate, ap, ◌∙◌, sym, arith, length-append}
use Rattle.std.proofs.lemmas.List.{take-append-le, take_all, length-replicate}
use Rattle.mbj_aes.specs.Inside.Padding.{IsPadded}

-- the first n bytes of n bytes and zeros
pub take-padded : (n zeros : ℕ) (w xs : List ℕ) → length w ≡ n → xs ≡ w ++ replicate zeros 0 → take n xs ≡ w
take-padded n zeros w xs size e =
    ap (take n) e ∙ take-append-le n w (replicate zeros 0) (omega arith) ∙ take_all n w (omega arith)

-- n bytes and zeros are a padded array
pub IsPadded-zeros : (len n : ℕ) (w xs : List ℕ) → length w ≡ n → n ≤ len → xs ≡ w ++ replicate (len - n) 0
    → IsPadded len n xs
IsPadded-zeros len n w xs size fits e = record {
  size = ap length e ∙ length-append w (replicate (len - n) 0) ∙ omega (arith, length-replicate {A = ℕ});
  rest = e ∙ ap (λ v. v ++ replicate (len - n) 0) (sym (take-padded n (len - n) w xs size e));
}
