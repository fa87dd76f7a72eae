-- The round keys of the equivalent inverse cipher one by one.
use Rattle.std.proofs.Common.{◌≡◌, ℕ, zero, suc, ◌+◌, ◌-◌, ◌*◌, ◌<◌, ◌≤◌, inl, inr, List, ◌++◌, length, take, drop, refl, sym, ap, ap₂, ◌∙◌, arith, length-append, length-drop}
use Rattle.std.specs.Prelude.{◌==◌, ◌||◌, Bool, true, false, if◌then◌else◌}
use Rattle.std.proofs.lemmas.Bool.{cases_lt, cond_both, eq-eqb, ne_eqb}
use Rattle.std.proofs.lemmas.List.{take_all, drop_at, take-append-le, drop-append-le}
use Rattle.mbj_types.specs.Aes.{round_key, inv_mix_columns}
use Rattle.mbj_aes.proofs.KeyLists.{length-round_key}
use Rattle.mbj_direct.specs.Schedules.{inverse_round_key, inverse_keys}

-- one between the first and the last one
pub inner_key : (w : List ℕ) (n r : ℕ) → 1 ≤ r → r < n → inverse_round_key w n r ≡ inv_mix_columns (round_key w r)
inner_key w n r some less =
    let first : (r == 0) ≡ false = ne_eqb r 0 (λ e. omega arith) in
    let last : (r == n) ≡ false = ne_eqb r n (λ e. omega arith) in
    ap₂ (λ (a b : Bool). if a || b then round_key w r else inv_mix_columns (round_key w r)) first last

second_of : (a b : Bool) → b ≡ true → (a || b) ≡ true
second_of true b h = refl
second_of false b h = h

-- the last one, which is taken first
pub last_key : (w : List ℕ) (n : ℕ) → inverse_round_key w n n ≡ round_key w n
last_key w n =
    ap (λ (t : Bool). if t then round_key w n else inv_mix_columns (round_key w n))
    (second_of (n == 0) (n == n) (eq-eqb n n refl))

-- each is a block
pub length-inverse_round_key : (w : List ℕ) (n r : ℕ) → 16 * (r + 1) ≤ length w → length (inverse_round_key w n r) ≡ 16
length-inverse_round_key w n r long =
    cond_both (r == 0 || r == n) (round_key w r) (inv_mix_columns (round_key w r)) (λ k. length k ≡ 16)
    (λ e. length-round_key w r long) (λ e. refl)

module _ (w : List ℕ) (n : ℕ) (long : 16 * (n + 1) ≤ length w) where
  pub length-inverse_keys : (k : ℕ) → k ≤ n + 1 → length (inverse_keys w n k) ≡ 16 * k
  unfolding inverse_keys
  length-inverse_keys zero h = refl
  length-inverse_keys (suc k) h =
      let before : length (inverse_keys w n k) ≡ 16 * k = length-inverse_keys k (omega arith) in
      let next : length (inverse_round_key w n (n - k)) ≡ 16 = length-inverse_round_key w n (n - k) (omega arith) in
      length-append (inverse_keys w n k) (inverse_round_key w n (n - k)) ∙ omega arith

  -- key j of the first k
  pub key_at : (k j : ℕ) → j < k → k ≤ n + 1 → round_key (inverse_keys w n k) j ≡ inverse_round_key w n (n - j)
  unfolding inverse_keys
  key_at zero j less h = absurd (omega arith)
  key_at (suc k) j less h =
      let before : List ℕ = inverse_keys w n k in
      let next : List ℕ = inverse_round_key w n (n - k) in
      let size : length before ≡ 16 * k = length-inverse_keys k (omega arith) in
      let next_size : length next ≡ 16 = length-inverse_round_key w n (n - k) (omega arith) in
      elim (cases_lt j k) [
        | inl earlier ↦
            let left : length (drop (16 * j) before) ≡ length before - 16 * j = length-drop (16 * j) before in
            ap (take 16) (drop-append-le (16 * j) before next (omega arith))
            ∙ take-append-le 16 (drop (16 * j) before) next (omega arith)
            ∙ key_at k j earlier (omega arith)
        | inr not_earlier ↦
            let last : j ≡ k = omega arith in
            ap (λ (i : ℕ). take 16 (drop (16 * i) (before ++ next))) last
            ∙ ap (take 16) (drop_at before next (16 * k) size)
            ∙ take_all 16 next (omega arith)
            ∙ ap (λ (i : ℕ). inverse_round_key w n (n - i)) (sym last)
      ]
