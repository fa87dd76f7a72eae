-- Encryption and decryption round by round: each undoes the other, and blocks stay blocks.
use Rattle.std.proofs.Common.{◌≡◌, ℕ, zero, suc, ◌+◌, ◌-◌, ◌*◌, ◌/◌, ◌≤◌, List, length, refl, ap, ◌∙◌, arith}
use Rattle.mbj_types.specs.Blocks.{xor_lists}
use Rattle.mbj_types.specs.Aes.{sub_bytes, inv_sub_bytes, shift_rows, inv_shift_rows, mix_columns, inv_mix_columns, round_key, full_round, undone_round, after_rounds, undone_rounds, encipher, decipher}
use Rattle.mbj_aes.specs.Bytes.{IsBytes, IsBlock}
use Rattle.mbj_types.proofs.XorLists.{xor_lists_twice, length-xor_lists}
use Rattle.mbj_aes.proofs.XorLists.{IsBlock-xor_lists}
use Rattle.mbj_aes.proofs.ByteMaps.{unsubstituted_bytes, resubstituted_bytes, IsBlock-sub_bytes, IsBytes-inv_sub_bytes}
use Rattle.mbj_aes.proofs.States.{IsBytes-shift_rows, IsBytes-inv_shift_rows, unshifted_rows, reshifted_rows}
use Rattle.mbj_aes.proofs.Columns.{unmixed_columns, remixed_columns, IsBlock-mix_columns, IsBlock-inv_mix_columns}
use Rattle.mbj_aes.proofs.KeyLists.{length-round_key, IsBlock-round_key}

-- ---- changes of blocks that are undone

-- change makes a block of each block, and undo makes that block again
pub record IsUndone (change undo : List ℕ → List ℕ) : Type 0 where
  pub block : (s : List ℕ) → IsBlock s → IsBlock (change s)
  pub again : (s : List ℕ) → IsBlock s → undo (change s) ≡ s

-- one change after another, the last of which is undone first
joined : {f g f' g' : List ℕ → List ℕ} → IsUndone f f' → IsUndone g g' → IsUndone (λ s. g (f s)) (λ s. f' (g' s))
joined {f} {g} {f'} {g'} first second = record {
  block = λ s h. second.block (f s) (first.block s h);
  again = λ s h. ap f' (second.again (f s) (first.block s h)) ∙ first.again s h;
}

-- ---- the steps of a round

-- ADDROUNDKEY
added : (k : List ℕ) → IsBlock k → IsUndone (λ s. xor_lists s k) (λ s. xor_lists s k)
added k g = record { block = λ s h. IsBlock-xor_lists s k h g; again = λ s h. xor_lists_twice s k (omega arith) }

-- SUBBYTES with SHIFTROWS, and their inverses
forward : IsUndone (λ s. shift_rows (sub_bytes s)) (λ s. inv_sub_bytes (inv_shift_rows s))
forward = record {
  block = λ s h. record { size = refl; bytes = IsBytes-shift_rows (sub_bytes s) (IsBlock-sub_bytes s h) };
  again = λ s h. ap inv_sub_bytes (unshifted_rows (sub_bytes s) (IsBlock-sub_bytes s h)) ∙ unsubstituted_bytes s h.bytes;
}

back : IsUndone (λ s. inv_sub_bytes (inv_shift_rows s)) (λ s. shift_rows (sub_bytes s))
back = record {
  block = λ s h. record { size = refl; bytes = IsBytes-inv_sub_bytes (inv_shift_rows s) };
  again = λ s h. ap shift_rows (resubstituted_bytes (inv_shift_rows s) (IsBytes-inv_shift_rows s h)) ∙ reshifted_rows s h;
}

-- MIXCOLUMNS, and its inverse
mixed : IsUndone mix_columns inv_mix_columns
mixed = record { block = IsBlock-mix_columns; again = unmixed_columns }

unmixed : IsUndone inv_mix_columns mix_columns
unmixed = record { block = IsBlock-inv_mix_columns; again = remixed_columns }

-- ---- rounds

done : (k : List ℕ) → IsBlock k → IsUndone (λ s. full_round s k) (λ s. undone_round s k)
done k g = joined (joined forward mixed) (added k g)

undone : (k : List ℕ) → IsBlock k → IsUndone (λ s. undone_round s k) (λ s. full_round s k)
undone k g = joined (joined (added k g) unmixed) back

module _ (w : List ℕ) (g : IsBytes w) where
  all_done : (r : ℕ) → 16 * (r + 1) ≤ length w → IsUndone (λ b. after_rounds w b r) (λ s. undone_rounds w s r)
  unfolding after_rounds undone_rounds
  all_done zero l = added (round_key w 0) (IsBlock-round_key w 0 g l)
  all_done (suc r) l = joined (all_done r (omega arith)) (done (round_key w (suc r)) (IsBlock-round_key w (suc r) g l))

  all_undone : (r : ℕ) → 16 * (r + 1) ≤ length w → IsUndone (λ s. undone_rounds w s r) (λ b. after_rounds w b r)
  unfolding after_rounds undone_rounds
  all_undone zero l = added (round_key w 0) (IsBlock-round_key w 0 g l)
  all_undone (suc r) l = joined (undone (round_key w (suc r)) (IsBlock-round_key w (suc r) g l)) (all_undone r (omega arith))

  -- whole schedules, of two round keys at least
  pub encipher-undone : 32 ≤ length w → IsUndone (encipher w) (decipher w)
  unfolding encipher decipher
  encipher-undone l =
      let n : ℕ = length w / 16 - 1 in
      joined (joined (all_done (n - 1) (omega arith)) forward) (added (round_key w n) (IsBlock-round_key w n g (omega arith)))

  pub decipher-undone : 32 ≤ length w → IsUndone (decipher w) (encipher w)
  unfolding encipher decipher
  decipher-undone l =
      let n : ℕ = length w / 16 - 1 in
      joined (joined (added (round_key w n) (IsBlock-round_key w n g (omega arith))) back) (all_undone (n - 1) (omega arith))

-- ---- lengths: 16 bytes come out, whatever numbers go in

-- of encryption
pub length-encipher : (w b : List ℕ) → 16 ≤ length w → length (encipher w b) ≡ 16
unfolding encipher
length-encipher w b l =
    let n : ℕ = length w / 16 - 1 in
    let key : length (round_key w n) ≡ 16 = length-round_key w n (omega arith) in
    length-xor_lists (shift_rows (sub_bytes (after_rounds w b (n - 1)))) (round_key w n) (omega arith)

-- of rounds undone
length-undone_rounds : (w : List ℕ) (r : ℕ) (s : List ℕ) → length s ≡ 16 → 16 * (r + 1) ≤ length w
    → length (undone_rounds w s r) ≡ 16
unfolding undone_rounds
length-undone_rounds w zero s h l =
    let key : length (round_key w 0) ≡ 16 = length-round_key w 0 l in
    length-xor_lists s (round_key w 0) (omega arith) ∙ h
length-undone_rounds w (suc r) s h l = length-undone_rounds w r (undone_round s (round_key w (suc r))) refl (omega arith)

-- of decryption
pub length-decipher : (w b : List ℕ) → 32 ≤ length w → length (decipher w b) ≡ 16
unfolding decipher
length-decipher w b l =
    let n : ℕ = length w / 16 - 1 in
    length-undone_rounds w (n - 1) (inv_sub_bytes (inv_shift_rows (xor_lists b (round_key w n)))) refl (omega arith)
