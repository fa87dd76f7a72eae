-- What key expansion leaves in the array of a schedule.
use Rattle.std.proofs.Common.{◌≡◌, ℕ, zero, suc, ◌+◌, ◌-◌, ◌*◌, ◌/◌, ◌<◌, ◌≤◌, List, ◌++◌, length, take, replicate, refl, ap, ap₂, sym, ◌∙◌, arith, inl, inr}
use Rattle.std.proofs.lemmas.List.Elements.{All-append, All-replicate, All-same}
use Rattle.std.proofs.lemmas.List.{take_all, take-append-le}
use Rattle.mbj_types.specs.Blocks.{xor_lists}
use Rattle.mbj_types.specs.Aes.{word, schedule_term, schedule, round_count, key_schedule, encipher, decipher, aes, aes_inverse}
use Rattle.mbj_aes.specs.Bytes.{IsBytes, IsKey, IsKeySize, IsRoundCount}
use Rattle.mbj_aes.specs.Inside.Padding.{IsPadded}
use Rattle.mbj_aes.specs.Inside.FirstKeys.{IsExpanded}
use Rattle.mbj_aes.proofs.KeyLists.{IsSchedule, IsSchedule-schedule, IsSchedule-key_schedule}
use Rattle.mbj_aes.proofs.KeySizes.{key_sizes}
use Rattle.mbj_aes.proofs.Padding.{take-padded, IsPadded-zeros}

-- the schedule of the key and zeros, and the number of rounds
pub record IsExpansion (key bytes : List ℕ) (rounds : ℕ) : Type 0 where
  pub of_key : IsKey key
  pub array : bytes ≡ key_schedule key ++ replicate (240 - 16 * (round_count key + 1)) 0
  pub count : rounds ≡ round_count key

-- the number of rounds for a key of n bytes
pub IsRoundCount-round_count : (n rounds : ℕ) → IsKeySize n → rounds ≡ n / 4 + 6 → IsRoundCount rounds
IsRoundCount-round_count n rounds size e = elim (key_sizes n size) [
  | inl short ↦ inl (omega arith)
  | inr (inl middle) ↦ inr (inl (omega arith))
  | inr (inr long) ↦ inr (inr (omega arith))
]

-- 16 bytes for each round, and 16 more
pub length-key_schedule : (key : List ℕ) → IsKey key → length (key_schedule key) ≡ 16 * (round_count key + 1)
length-key_schedule key h =
    let sizes = key_sizes (length key) h.size in
    let w : IsSchedule (4 * (round_count key + 1)) (key_schedule key) = IsSchedule-key_schedule key h in
    w.size ∙ omega arith

-- encryption under the schedule of a key
pub encipher-key_schedule : (key b : List ℕ) → encipher (key_schedule key) b ≡ aes key b
unfolding aes
encipher-key_schedule key b = refl

-- decryption under the schedule of a key
pub decipher-key_schedule : (key b : List ℕ) → decipher (key_schedule key) b ≡ aes_inverse key b
unfolding aes_inverse
decipher-key_schedule key b = refl

-- a schedule begins with the key
take-schedule : (nk : ℕ) (key : List ℕ) (n : ℕ) → 1 ≤ nk → length key ≡ 4 * nk → IsBytes key → take (4 * nk) (schedule nk key n) ≡ key
unfolding schedule
take-schedule nk key zero some size bytes = take_all (4 * nk) key (omega arith)
take-schedule nk key (suc n) some size bytes =
    let w : List ℕ = schedule nk key n in
    let before : IsSchedule (nk + n) w = IsSchedule-schedule nk key n some size bytes in
    take-append-le (4 * nk) w (xor_lists (word w n) (schedule_term nk w (nk + n))) (omega (arith, before.size))
    ∙ take-schedule nk key n some size bytes

-- ---- the array

module _ (key bytes : List ℕ) (rounds : ℕ) (h : IsExpansion key bytes rounds) where
  long : length (key_schedule key) ≡ 16 * (round_count key + 1)
  long = length-key_schedule key h.of_key

  -- it has bytes
  pub IsBytes-expansion : IsBytes bytes
  IsBytes-expansion =
      let P : ℕ → Type 0 = λ x. x < 256 in
      let n : ℕ = 240 - 16 * (round_count key + 1) in
      let w : IsSchedule (4 * (round_count key + 1)) (key_schedule key) = IsSchedule-key_schedule key h.of_key in
      All-same P bytes (key_schedule key ++ replicate n 0) h.array
      (All-append P (key_schedule key) (replicate n 0) w.bytes (All-replicate P n 0 (omega arith)))

  -- and zeros at its end
  pub IsPadded-expansion : IsPadded 240 (16 * (rounds + 1)) bytes
  IsPadded-expansion =
      let sizes = key_sizes (length key) h.of_key.size in
      rw h.count (IsPadded-zeros 240 (16 * (round_count key + 1)) (key_schedule key) bytes long (omega arith) h.array)

  -- its first part is the schedule
  pub take-expansion : take (16 * (rounds + 1)) bytes ≡ key_schedule key
  take-expansion =
      rw h.count (take-padded (16 * (round_count key + 1)) (240 - 16 * (round_count key + 1)) (key_schedule key) bytes long h.array)

  -- so the key stands in it
  pub IsExpanded-expansion : IsExpanded rounds bytes
  IsExpanded-expansion =
      let sizes = key_sizes (length key) h.of_key.size in
      let nk : ℕ = length key / 4 in
      let size : 4 * (rounds - 6) ≡ 4 * nk = omega (arith, h.count) in
      let first : take (4 * (rounds - 6)) bytes ≡ key =
      ap₂ (λ n xs. take n xs) size h.array
      ∙ take-append-le (4 * nk) (key_schedule key) (replicate (240 - 16 * (round_count key + 1)) 0) (omega (arith, long))
      ∙ take-schedule nk key (4 * (round_count key + 1) - nk) (omega arith) (omega arith) h.of_key.bytes in
      ap key_schedule first ∙ sym take-expansion
