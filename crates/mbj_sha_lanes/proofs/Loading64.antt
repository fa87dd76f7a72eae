-- Bytes that are read as words of 64 bits.
use Rattle.std.proofs.Common.{◌≡◌, ℕ, ◌+◌, ◌^◌, ◌≤◌, ◌<◌, List, [], ◌∷◌, ◌++◌, length, take, drop, get_or, refl, ◌∙◌, arith, Fits, w8}
use Rattle.std.specs.Simd.Lanes.{number_l, digits_l, pick_l}
use Rattle.sha2.specs.Sha512.{word_at}
use Rattle.mbj_sha_lanes.specs.Inside.Columns64.{couple}
use Rattle.mbj_sha_lanes.proofs.Loading.{both, byte_at, high_byte, low_byte, words_of}

-- eight bytes are one word
word : (f : ℕ → ℕ) (b : List ℕ) (i m : ℕ) → ((k : ℕ) → k < 16 → f k ≡ get_or b (i + k) 0) → m + 8 ≤ 16
    → number_l (2 ^ 8) (f (m + 7) ∷ f (m + 6) ∷ f (m + 5) ∷ f (m + 4) ∷ f (m + 3) ∷ f (m + 2) ∷ f (m + 1) ∷ f m ∷ []) ≡ word_at b (i + m)
word f b i m read room =
    let at : (j : ℕ) → j < 8 → f (m + j) ≡ get_or b (i + m + j) 0 = λ j lt. byte_at f b i m j read (omega arith) in
    omega (arith, read m (omega arith), at 1 (omega arith), at 2 (omega arith), at 3 (omega arith), at 4 (omega arith), at 5 (omega arith), at 6 (omega arith), at 7 (omega arith))

-- the bytes of two words of each of two blocks, the last of each word first
abbrev reversed : List ℕ
reversed =
    7 ∷ 6 ∷ 5 ∷ 4 ∷ 3 ∷ 2 ∷ 1 ∷ 0 ∷ 15 ∷ 14 ∷ 13 ∷ 12 ∷ 11 ∷ 10 ∷ 9 ∷ 8
    ∷ 23 ∷ 22 ∷ 21 ∷ 20 ∷ 19 ∷ 18 ∷ 17 ∷ 16 ∷ 31 ∷ 30 ∷ 29 ∷ 28 ∷ 27 ∷ 26 ∷ 25 ∷ 24 ∷ []

-- the words of both
pub loaded : (low high : List ℕ) (i : ℕ) → i + 16 ≤ length low → i + 16 ≤ length high
    → ((k : ℕ) → Fits w8 (get_or low k 0)) → ((k : ℕ) → Fits w8 (get_or high k 0))
    → digits_l (2 ^ 64) 4 (number_l (2 ^ 8) (pick_l 0 (take 16 (drop i low) ++ take 16 (drop i high)) reversed))
    ≡ couple low i ++ couple high i
loaded low high i hl hh fl fh =
    let f : ℕ → ℕ = λ k. get_or (both low high i hl hh) k 0 in
    let g : ℕ → ℕ = λ k. get_or (both low high i hl hh) (16 + k) 0 in
    let fs = low_byte low high i hl hh in
    let gs = high_byte low high i hl hh in
    words_of low high i hl hh 8 (2 ^ 64) 4 reversed refl fl fh
    ∙ (λ t. word f low i 0 fs (omega arith) t ∷ word f low i 8 fs (omega arith) t ∷ word g high i 0 gs (omega arith) t ∷ word g high i 8 gs (omega arith) t ∷ [])

-- a word is below 2 ^ 64
pub word-fits : (b : List ℕ) (i : ℕ) → ((k : ℕ) → get_or b k 0 < 2 ^ 8) → word_at b i < 2 ^ 64
word-fits b i f = omega (arith, f i, f (i + 1), f (i + 2), f (i + 3), f (i + 4), f (i + 5), f (i + 6), f (i + 7))
