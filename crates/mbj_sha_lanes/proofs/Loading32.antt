-- Bytes that are read as words of 32 bits.
use Rattle.std.proofs.Common.{◌≡◌, ℕ, ◌+◌, ◌^◌, ◌≤◌, ◌<◌, List, [], ◌∷◌, ◌++◌, length, take, drop, get_or, refl, ◌∙◌, arith, Fits, w8}
use Rattle.std.specs.Simd.Lanes.{number_l, digits_l, pick_l}
use Rattle.sha2.specs.Sha256.{word_at}
use Rattle.mbj_sha_lanes.specs.Inside.Columns32.{quad}
use Rattle.mbj_sha_lanes.proofs.Loading.{both, byte_at, high_byte, low_byte, words_of}

-- four bytes are one word
word : (f : ℕ → ℕ) (b : List ℕ) (i m : ℕ) → ((k : ℕ) → k < 16 → f k ≡ get_or b (i + k) 0) → m + 4 ≤ 16
    → number_l (2 ^ 8) (f (m + 3) ∷ f (m + 2) ∷ f (m + 1) ∷ f m ∷ []) ≡ word_at b (i + m)
word f b i m read room =
    omega (arith, read m (omega arith), byte_at f b i m 1 read (omega arith), byte_at f b i m 2 read (omega arith), byte_at f b i m 3 read (omega arith))

-- the bytes of four words of each of two blocks, the last of each word first
abbrev reversed : List ℕ
reversed =
    3 ∷ 2 ∷ 1 ∷ 0 ∷ 7 ∷ 6 ∷ 5 ∷ 4 ∷ 11 ∷ 10 ∷ 9 ∷ 8 ∷ 15 ∷ 14 ∷ 13 ∷ 12
    ∷ 19 ∷ 18 ∷ 17 ∷ 16 ∷ 23 ∷ 22 ∷ 21 ∷ 20 ∷ 27 ∷ 26 ∷ 25 ∷ 24 ∷ 31 ∷ 30 ∷ 29 ∷ 28 ∷ []

-- the words of both
pub loaded : (low high : List ℕ) (i : ℕ) → i + 16 ≤ length low → i + 16 ≤ length high
    → ((k : ℕ) → Fits w8 (get_or low k 0)) → ((k : ℕ) → Fits w8 (get_or high k 0))
    → digits_l (2 ^ 32) 8 (number_l (2 ^ 8) (pick_l 0 (take 16 (drop i low) ++ take 16 (drop i high)) reversed))
    ≡ quad low i ++ quad high i
loaded low high i hl hh fl fh =
    let f : ℕ → ℕ = λ k. get_or (both low high i hl hh) k 0 in
    let g : ℕ → ℕ = λ k. get_or (both low high i hl hh) (16 + k) 0 in
    let fs = low_byte low high i hl hh in
    let gs = high_byte low high i hl hh in
    words_of low high i hl hh 4 (2 ^ 32) 8 reversed refl fl fh
    ∙ (λ t. word f low i 0 fs (omega arith) t ∷ word f low i 4 fs (omega arith) t ∷ word f low i 8 fs (omega arith) t ∷ word f low i 12 fs (omega arith) t
    ∷ word g high i 0 gs (omega arith) t ∷ word g high i 4 gs (omega arith) t ∷ word g high i 8 gs (omega arith) t ∷ word g high i 12 gs (omega arith) t ∷ [])

-- a word is below 2 ^ 32
pub word-fits : (b : List ℕ) (i : ℕ) → ((k : ℕ) → get_or b k 0 < 2 ^ 8) → word_at b i < 2 ^ 32
word-fits b i f = omega (arith, f i, f (i + 1), f (i + 2), f (i + 3))
