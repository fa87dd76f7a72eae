-- The equivalent inverse cipher deciphers.
use Rattle.std.proofs.Common.{◌≡◌, ℕ, zero, suc, ◌+◌, ◌-◌, ◌*◌, ◌/◌, ◌≤◌, List, length, refl, sym, ap, ap₂, ◌∙◌, arith}
use Rattle.mbj_types.specs.Blocks.{xor_lists}
use Rattle.mbj_types.specs.Aes.{round_key, inv_sub_bytes, inv_shift_rows, inv_mix_columns, undone_round, undone_rounds, inv_cipher, decipher, key_schedule, round_count}
use Rattle.mbj_types.proofs.XorLists.{length-xor_lists}
use Rattle.mbj_aes.proofs.KeyLists.{length-round_key}
use Rattle.mbj_aes.proofs.ExpandedKeys.{length-key_schedule, decipher-key_schedule}
use Rattle.mbj_direct.specs.Equivalent.{equivalent_rounds, equivalent_cipher, equivalent_decipher}
use Rattle.mbj_direct.specs.Laws.{EquivalentCipherDeciphers}
use Rattle.mbj_direct.specs.Schedules.{inverse_round_key, inverse_keys, inverse_schedule}
use Rattle.mbj_direct.proofs.InverseColumns.{columns_added, either_order}
use Rattle.mbj_direct.proofs.InverseKeys.{inner_key, last_key, length-inverse_round_key, length-inverse_keys, key_at}

-- INVSHIFTROWS and INVSUBBYTES, in the order of INVCIPHER
abbrev back : List ℕ → List ℕ
back s = inv_sub_bytes (inv_shift_rows s)

-- dw has the round keys of the equivalent inverse cipher that go with the schedule w of n rounds
module _ (w dw b : List ℕ) (n : ℕ) (long : 16 * (n + 1) ≤ length w)
    (keys : (j : ℕ) → j ≤ n → round_key dw j ≡ inverse_round_key w n (n - j)) (size : length b ≡ 16) where
  abbrev state : ℕ → List ℕ
  state r = equivalent_rounds dw b r

  length-key : (j : ℕ) → j ≤ n → length (round_key dw j) ≡ 16
  length-key j h = ap length (keys j h) ∙ length-inverse_round_key w n (n - j) (omega arith)

  length-state : (r : ℕ) → r ≤ n → length (state r) ≡ 16
  unfolding equivalent_rounds
  length-state zero h =
      let key : length (round_key dw 0) ≡ 16 = length-key 0 h in
      length-xor_lists b (round_key dw 0) (omega arith) ∙ size
  length-state (suc r) h =
      let key : length (round_key dw (suc r)) ≡ 16 = length-key (suc r) h in
      length-xor_lists (inv_mix_columns (inv_shift_rows (inv_sub_bytes (state r)))) (round_key dw (suc r)) (omega arith)

  -- a round undone is the next round of the other cipher
  next : (j r : ℕ) → j + suc r + 1 ≡ n → undone_round (back (state j)) (round_key w (suc r)) ≡ back (state (suc j))
  unfolding equivalent_rounds
  next j r h =
      let k : List ℕ = round_key w (suc r) in
      let key : inv_mix_columns k ≡ round_key dw (suc j) =
      sym (inner_key w n (suc r) (omega arith) (omega arith))
      ∙ ap (λ (i : ℕ). inverse_round_key w n i) (let place : suc r ≡ n - suc j = omega arith in place)
      ∙ sym (keys (suc j) (omega arith)) in
      ap back (columns_added (back (state j)) k refl (length-round_key w (suc r) (omega arith))
      ∙ ap₂ (λ s c. xor_lists (inv_mix_columns s) c) (either_order (state j) (length-state j (omega arith))) key)

  -- r rounds are left to be undone
  from : (r j : ℕ) → j + r + 1 ≡ n → undone_rounds w (back (state j)) r ≡ equivalent_cipher dw n b
  unfolding undone_rounds
  from zero j h =
      let last : j ≡ n - 1 = omega arith in
      let none : n - n ≡ 0 = omega arith in
      let key : round_key w 0 ≡ round_key dw n =
      sym (keys n (omega arith) ∙ ap (λ (i : ℕ). inverse_round_key w n i) none) in
      ap₂ xor_lists
      (either_order (state j) (length-state j (omega arith)) ∙ ap (λ (i : ℕ). inv_shift_rows (inv_sub_bytes (state i))) last)
      key
  from (suc r) j h =
      ap (λ s. undone_rounds w s r) (next j r h) ∙ from r (suc j) (omega arith)

-- by the schedule of at least one round
pub by_schedule : (w b : List ℕ) (n : ℕ) → length w ≡ 16 * (n + 1) → 1 ≤ n → length b ≡ 16
    → equivalent_decipher (inverse_schedule w) b ≡ decipher w b
unfolding equivalent_decipher inverse_schedule decipher equivalent_rounds
by_schedule w b n is some size =
    let count : length w / 16 - 1 ≡ n = omega arith in
    let dw : List ℕ = inverse_keys w n (n + 1) in
    let many : length dw ≡ 16 * (n + 1) = length-inverse_keys w n (omega arith) (n + 1) (omega arith) in
    let rounds : length dw / 16 - 1 ≡ n = omega arith in
    let keys : (j : ℕ) → j ≤ n → round_key dw j ≡ inverse_round_key w n (n - j) = λ j h.
    key_at w n (omega arith) (n + 1) j (omega arith) (omega arith) in
    let start : n - 0 ≡ n = omega arith in
    let first : round_key dw 0 ≡ round_key w n =
    keys 0 (omega arith) ∙ ap (λ (i : ℕ). inverse_round_key w n i) start ∙ last_key w n in
    ap (λ (m : ℕ). equivalent_cipher (inverse_keys w m (m + 1)) (length (inverse_keys w m (m + 1)) / 16 - 1) b) count
    ∙ ap (λ (m : ℕ). equivalent_cipher dw m b) rounds
    ∙ sym (from w dw b n (omega arith) keys size (n - 1) 0 (omega arith))
    ∙ ap (λ k. undone_rounds w (back (xor_lists b k)) (n - 1)) first
    ∙ sym (ap (λ (m : ℕ). inv_cipher w m b) count)

pub equivalent : EquivalentCipherDeciphers
equivalent key b k h =
    by_schedule (key_schedule key) b (round_count key) (length-key_schedule key k) (omega arith) h.size ∙ decipher-key_schedule key b
