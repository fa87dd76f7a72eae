-- Schedules as lists of words: their lengths, their bytes and their round keys.
use Rattle.std.proofs.Common.{◌≡◌, ℕ, zero, suc, ◌+◌, ◌-◌, ◌*◌, ◌/◌, ◌%◌, ◌<◌, ◌≤◌, nat_eq, Bool, true, false, if◌then◌else◌, List, [], ◌∷◌, length, drop, refl, ◌∙◌, arith, length-drop, length-append}
use Rattle.std.proofs.lemmas.List.{length-map, length-take-le}
use Rattle.std.proofs.lemmas.List.Elements.{All-cons, All-replicate, All-take, All-drop, All-append}
use Rattle.mbj_types.specs.Blocks.{xor_lists}
use Rattle.mbj_types.specs.Aes.{power, sub_byte, sub_bytes, word, rcon, rot_word, schedule_term, schedule, round_key, round_count, key_schedule}
use Rattle.mbj_aes.specs.Bytes.{IsBytes, IsBlock, IsKey}
use Rattle.mbj_types.proofs.XorLists.{length-xor_lists}
use Rattle.mbj_aes.proofs.XorLists.{IsBytes-xor_lists}
use Rattle.mbj_aes.proofs.KeySizes.{key_sizes}
use Rattle.mbj_aes.proofs.FieldProducts.{power_small}
use Rattle.mbj_aes.proofs.ByteMaps.{IsBytes-sub_bytes}

-- ---- words

-- a word of 4 bytes
record IsWord (t : List ℕ) : Type 0 where
  size : length t ≡ 4
  bytes : IsBytes t

-- a word of a list
IsWord-word : (w : List ℕ) (i : ℕ) → IsBytes w → 4 * i + 4 ≤ length w → IsWord (word w i)
IsWord-word w i h inside = record {
  size = length-take-le 4 (drop (4 * i) w) (omega (arith, length-drop (4 * i) w));
  bytes = All-take (λ x. x < 256) 4 (drop (4 * i) w) (All-drop (λ x. x < 256) (4 * i) w h);
}

-- a word xored with a word
IsWord-xor_lists : (t u : List ℕ) → IsWord t → IsWord u → IsWord (xor_lists t u)
IsWord-xor_lists t u h g =
    record { size = length-xor_lists t u (omega arith) ∙ h.size; bytes = IsBytes-xor_lists t u h.bytes g.bytes }

-- SUBWORD of a word
IsWord-sub_bytes : (t : List ℕ) → length t ≡ 4 → IsWord (sub_bytes t)
IsWord-sub_bytes t h = record { size = length-map t sub_byte ∙ h; bytes = IsBytes-sub_bytes t }

-- ROTWORD of a word
length-rot_word : (t : List ℕ) → length t ≡ 4 → length (rot_word t) ≡ 4
length-rot_word (a ∷ b ∷ c ∷ d ∷ []) h = refl
length-rot_word t h = absurd (omega arith)

-- a round constant
IsWord-rcon : (j : ℕ) → IsWord (rcon j)
IsWord-rcon j =
    let P : ℕ → Type 0 = λ x. x < 256 in
    let first : power 2 (j - 1) < 256 = power_small 2 (j - 1) (omega arith) in
    record { size = refl; bytes = All-cons P (power 2 (j - 1)) (0 ∷ 0 ∷ 0 ∷ []) first (All-replicate P 3 0 (omega arith)) }

-- one of two words
IsWord-if : (b : Bool) (t u : List ℕ) → IsWord t → IsWord u → IsWord (if b then t else u)
IsWord-if true t u h g = h
IsWord-if false t u h g = g

-- what is added to a word of a schedule
IsWord-schedule_term : (nk : ℕ) (w : List ℕ) (i : ℕ) → IsBytes w → 1 ≤ i → 4 * i ≤ length w
    → IsWord (schedule_term nk w i)
IsWord-schedule_term nk w i h after inside =
    let t : List ℕ = word w (i - 1) in
    let last : IsWord t = IsWord-word w (i - 1) h (omega arith) in
    let first : List ℕ = xor_lists (sub_bytes (rot_word t)) (rcon (i / nk)) in
    let middle : List ℕ = if nat_eq (i % 8) 4 then sub_bytes t else t in
    let turned : IsWord (sub_bytes (rot_word t)) = IsWord-sub_bytes (rot_word t) (length-rot_word t last.size) in
    let first_word : IsWord first = IsWord-xor_lists (sub_bytes (rot_word t)) (rcon (i / nk)) turned (IsWord-rcon (i / nk)) in
    let middle_word : IsWord middle = IsWord-if (nat_eq (i % 8) 4) (sub_bytes t) t (IsWord-sub_bytes t last.size) last in
    IsWord-if (nat_eq (i % nk) 0) first (if nat_eq nk 8 then middle else t) first_word
    (IsWord-if (nat_eq nk 8) middle t middle_word last)

-- ---- schedules

-- the first words of a schedule: how many bytes they have, and that these are bytes
pub record IsSchedule (words : ℕ) (w : List ℕ) : Type 0 where
  pub size : length w ≡ 4 * words
  pub bytes : IsBytes w

-- the words of a key, and n more
pub IsSchedule-schedule : (nk : ℕ) (key : List ℕ) (n : ℕ) → 1 ≤ nk → length key ≡ 4 * nk → IsBytes key
    → IsSchedule (nk + n) (schedule nk key n)
unfolding schedule
IsSchedule-schedule nk key zero h size bytes = record { size = size ∙ omega arith; bytes = bytes }
IsSchedule-schedule nk key (suc n) h size bytes =
    let w : List ℕ = schedule nk key n in
    let before : IsSchedule (nk + n) w = IsSchedule-schedule nk key n h size bytes in
    let next : List ℕ = xor_lists (word w n) (schedule_term nk w (nk + n)) in
    let word_next : IsWord next =
    IsWord-xor_lists (word w n) (schedule_term nk w (nk + n)) (IsWord-word w n before.bytes (omega arith))
    (IsWord-schedule_term nk w (nk + n) before.bytes (omega arith) (omega arith)) in
    record {
      size = length-append w next ∙ omega arith;
      bytes = All-append (λ x. x < 256) w next before.bytes word_next.bytes;
    }

-- the whole schedule of a key
pub IsSchedule-key_schedule : (key : List ℕ) → IsKey key
    → IsSchedule (4 * (round_count key + 1)) (key_schedule key)
IsSchedule-key_schedule key h =
    let sizes = key_sizes (length key) h.size in
    let n : ℕ = 4 * (round_count key + 1) - length key / 4 in
    let whole = IsSchedule-schedule (length key / 4) key n (omega arith) (omega arith) h.bytes in
    record { size = whole.size ∙ omega arith; bytes = whole.bytes }

-- ---- round keys

-- a round key of a list that is long enough
pub length-round_key : (w : List ℕ) (r : ℕ) → 16 * (r + 1) ≤ length w → length (round_key w r) ≡ 16
length-round_key w r inside = length-take-le 16 (drop (16 * r) w) (omega (arith, length-drop (16 * r) w))

-- a round key of bytes
pub IsBlock-round_key : (w : List ℕ) (r : ℕ) → IsBytes w → 16 * (r + 1) ≤ length w → IsBlock (round_key w r)
IsBlock-round_key w r h inside = record {
  size = length-round_key w r inside;
  bytes = All-take (λ x. x < 256) 16 (drop (16 * r) w) (All-drop (λ x. x < 256) (16 * r) w h);
}
