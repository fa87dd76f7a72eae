-- SHA-2 by the length of its words (FIPS 180-4, 4.1.2, 4.1.3, 6.2 and 6.4): what the hashes with words of 32 and of 64 bits
-- differ in, and a round and a word of the schedule over that.
use Rattle.std.specs.Prelude.{◌≡◌, ◌⊎◌, ℕ, ◌+◌, ◌-◌, ◌/◌, ◌%◌, ◌^◌, ◌<◌, ◌≤◌, List, [], ◌∷◌, length, bit_and, bit_xor, slice_index, slice_index_or}
use Rattle.std.specs.Int.{Width, bit_not, rotate_right}
use Rattle.sha2.specs.Sha256.{maj}
use Rattle.mbj_sha_lanes.specs.declared.working.Working.{Working}
use mir.Val.{bits}

-- what the standard gives a hash of its own
pub record Sha2Standard : Type 0 where
  -- the amounts of the sigmas: the upper case 0 and 1, and the lower case ones
  pub sigmas : List (List ℕ)
  -- how many rounds there are, and their constants
  pub count : ℕ
  pub constants : List ℕ
  -- the words of a block, those of its schedule, and the working variables after this many rounds from a hash value on
  pub first_words : List ℕ → List ℕ
  pub schedule : List ℕ → List ℕ
  pub rounds : List ℕ → List ℕ → ℕ → List ℕ

-- three amounts by which words of n bits are rotated or shifted
pub record AreAmounts (n : ℕ) (amounts : List ℕ) : Type 0 where
  pub first : (0 < slice_index amounts 0) × (slice_index amounts 0 < n)
  pub second : (0 < slice_index amounts 1) × (slice_index amounts 1 < n)
  pub third : (0 < slice_index amounts 2) × (slice_index amounts 2 < n)

module _ (w : Width) where
  -- the sum of two words, Ch, and the sigmas by their amounts
  abbrev pub add : ℕ → ℕ → ℕ
  add x y = (x + y) % 2 ^ bits w

  abbrev pub ch : ℕ → ℕ → ℕ → ℕ
  ch x y z = bit_xor (bit_and x y) (bit_and (bit_not w x) z)

  abbrev pub big_sigma : List ℕ → ℕ → ℕ
  big_sigma amounts x =
      bit_xor (bit_xor (rotate_right w x (slice_index amounts 0)) (rotate_right w x (slice_index amounts 1)))
      (rotate_right w x (slice_index amounts 2))

  abbrev pub small_sigma : List ℕ → ℕ → ℕ
  small_sigma amounts x =
      bit_xor (bit_xor (rotate_right w x (slice_index amounts 0)) (rotate_right w x (slice_index amounts 1))) (x / 2 ^ slice_index amounts 2)

  -- the hash value h with the working variables v added to it (step 4)
  abbrev pub add_state : List ℕ → List ℕ → List ℕ
  add_state h v =
      add (slice_index h 0) (slice_index v 0) ∷ add (slice_index h 1) (slice_index v 1)
      ∷ add (slice_index h 2) (slice_index v 2) ∷ add (slice_index h 3) (slice_index v 3)
      ∷ add (slice_index h 4) (slice_index v 4) ∷ add (slice_index h 5) (slice_index v 5)
      ∷ add (slice_index h 6) (slice_index v 6) ∷ add (slice_index h 7) (slice_index v 7) ∷ []

module _ (w : Width) (f : Sha2Standard) where
  abbrev pub amounts : ℕ → List ℕ
  amounts k = slice_index_or f.sigmas k []

  -- word t of a schedule from the words 2, 7, 15 and 16 places before it (step 1)
  abbrev pub schedule_word : ℕ → ℕ → ℕ → ℕ → ℕ
  schedule_word w2 w7 w15 w16 = add w (add w (add w (small_sigma w (amounts 3) w2) w7) (small_sigma w (amounts 2) w15)) w16

  abbrev pub next_word : List ℕ → ℕ → ℕ
  next_word ws t = schedule_word (slice_index ws (t - 2)) (slice_index ws (t - 7)) (slice_index ws (t - 15)) (slice_index ws (t - 16))

  -- the temporary words of a round, and the round (step 3)
  abbrev pub temp1 : List ℕ → ℕ → ℕ → ℕ
  temp1 v k word =
      add w (add w (add w (add w (slice_index v 7) (big_sigma w (amounts 1) (slice_index v 4)))
      (ch w (slice_index v 4) (slice_index v 5) (slice_index v 6))) k) word

  abbrev pub temp2 : List ℕ → ℕ
  temp2 v = add w (big_sigma w (amounts 0) (slice_index v 0)) (maj (slice_index v 0) (slice_index v 1) (slice_index v 2))

  abbrev pub round : List ℕ → ℕ → ℕ → List ℕ
  round v k word =
      add w (temp1 v k word) (temp2 v) ∷ slice_index v 0 ∷ slice_index v 1 ∷ slice_index v 2
      ∷ add w (slice_index v 3) (temp1 v k word) ∷ slice_index v 4 ∷ slice_index v 5 ∷ slice_index v 6 ∷ []

  -- the hash value h after the block b
  abbrev pub compressed : List ℕ → List ℕ → List ℕ
  compressed h b = add_state w h (f.rounds h (f.schedule b) f.count)

  -- amounts are shorter than words, schedule and rounds are as the standard makes them, word by word and round by round
  pub record IsSha2 : Type 0 where
    pub sigmas : AreAmounts (bits w) (amounts 0) × AreAmounts (bits w) (amounts 1) × AreAmounts (bits w) (amounts 2) × AreAmounts (bits w) (amounts 3)
    pub count : (f.count ≡ 64) ⊎ (f.count ≡ 80)
    pub constants : length f.constants ≡ f.count
    pub words : (b : List ℕ) → length (f.first_words b) ≡ 16
    pub schedule_first : (b : List ℕ) (t : ℕ) → t < 16 → slice_index (f.schedule b) t ≡ slice_index (f.first_words b) t
    pub schedule_next : (b : List ℕ) (t : ℕ) → 16 ≤ t → t < f.count → slice_index (f.schedule b) t ≡ next_word (f.schedule b) t
    pub rounds_none : (v ws : List ℕ) → f.rounds v ws 0 ≡ v
    pub rounds_next : (v ws : List ℕ) (t : ℕ) → f.rounds v ws (t + 1) ≡ round (f.rounds v ws t) (slice_index f.constants t) (slice_index ws t)

-- the working variables a, …, h of lane i
abbrev pub working_lane : {V : Type 0} → (V → ℕ → ℕ) → Working V → ℕ → List ℕ
working_lane lane v i =
    lane v.a i ∷ lane v.b i ∷ lane v.c i ∷ lane v.d i ∷ lane v.e i ∷ lane v.f i ∷ lane v.g i ∷ lane v.h i ∷ []

-- the window of 16 words before word t of a schedule: word s is at place s modulo 16
pub record IsWindow (w schedule : List ℕ) (t : ℕ) : Type 0 where
  pub size : length w ≡ 16
  pub each : (s : ℕ) → t ≤ s + 16 → s < t → slice_index w (s % 16) ≡ slice_index schedule s
