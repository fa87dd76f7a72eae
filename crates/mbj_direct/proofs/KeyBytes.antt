-- Round keys one after another.
use Rattle.std.proofs.Common.{◌≡◌, ℕ, suc, ◌+◌, ◌-◌, ◌*◌, List, [], ◌++◌, take, refl, sym, ap, ◌∙◌, arith}
use Rattle.std.proofs.Math.Seq.{take-add}
use Rattle.mbj_types.specs.Aes.{round_key}
use Rattle.mbj_direct.specs.Schedules.{inverse_round_key, inverse_keys}

-- those of encryption before the next one, and it
pub keys-next : (w : List ℕ) (r : ℕ) → take (16 * r) w ++ round_key w r ≡ take (16 * (r + 1)) w
keys-next w r =
    let next : 16 * r + 16 ≡ 16 * (r + 1) = omega arith in
    sym (take-add (16 * r) 16 w) ∙ ap (λ (k : ℕ). take k w) next

-- the same of decryption
pub inverse_keys-next : (w : List ℕ) (n r : ℕ) → inverse_keys w n r ++ inverse_round_key w n (n - r) ≡ inverse_keys w n (r + 1)
unfolding inverse_keys
inverse_keys-next w n r =
    let next : r + 1 ≡ suc r = omega arith in
    rw next refl

pub inverse_keys-none : (w : List ℕ) (n : ℕ) → inverse_keys w n 0 ≡ []
unfolding inverse_keys
inverse_keys-none w n = refl
