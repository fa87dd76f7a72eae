-- Bytes of blocks that are read as words, with words of any length: 16 bytes of each of two blocks, and the words of a group lane by lane.
use Rattle.std.proofs.Common.{◌≡◌, ℕ, zero, suc, ◌+◌, ◌*◌, ◌/◌, ◌%◌, ◌^◌, ◌≤◌, ◌<◌, List, [], ◌∷◌, ◌++◌, map, length, take, drop, get_or, refl, sym, ap, ap₂, ◌∙◌, arith, Fits, w8}
use Rattle.std.specs.List.{range_with_len}
use Rattle.std.specs.Simd.Lanes.{Each1, number_l, digits_l, pick_l}
use Rattle.std.proofs.Math.Nat.{mod-eq_of_lt}
use Rattle.std.proofs.Math.ListN.{get_or-append}
use Rattle.std.proofs.lemmas.Simd.{below_from_Fits, chunk-fits, get_or-chunk, get_or_wider, length-chunk}
use Rattle.std.proofs.lemmas.List.{get_or-append-add, get_or-map}
use Rattle.std.proofs.lemmas.List.FromFn.{fill_by_all}
use Rattle.mbj_types.specs.Lanes.{lane_at, lane_of}

length-digits_l : (q n x : ℕ) → length (digits_l q n x) ≡ n
length-digits_l q zero x = refl
length-digits_l q (suc n) x = ap suc (length-digits_l q n (x / q))

Each1-append : (P : ℕ → Type 0) (xs ys : List ℕ) → Each1 P xs → Each1 P ys → Each1 P (xs ++ ys)
Each1-append P [] ys a b = b
Each1-append P (x ∷ xs) ys a b = (a.0, Each1-append P xs ys a.1 b)

below : (n : ℕ) (xs : List ℕ) (k : ℕ) → 0 < n → Each1 (λ x. x < n) xs → get_or xs k 0 < n
below n [] k some h = some
below n (x ∷ xs) zero some h = h.0
below n (x ∷ xs) (suc k) some h = below n xs k some h.1

picked : (n : ℕ) (xs ks : List ℕ) → 0 < n → Each1 (λ x. x < n) xs → Each1 (λ x. x < n) (pick_l 0 xs ks)
picked n xs [] some h = tt
picked n xs (k ∷ ks) some h = (below n xs k some h, picked n xs ks some h)

-- byte m + j of 16 that were read from byte i on
pub byte_at : (f : ℕ → ℕ) (b : List ℕ) (i m j : ℕ) → ((k : ℕ) → k < 16 → f k ≡ get_or b (i + k) 0) → m + j < 16 → f (m + j) ≡ get_or b (i + m + j) 0
byte_at f b i m j read lt = read (m + j) lt ∙ ap (λ k. get_or b k 0) (omega arith)

-- 16 bytes of each of two blocks
module _ (low high : List ℕ) (i : ℕ) (low_room : i + 16 ≤ length low) (high_room : i + 16 ≤ length high) where
  abbrev pub both : List ℕ
  both = take 16 (drop i low) ++ take 16 (drop i high)

  pub low_byte : (k : ℕ) → k < 16 → get_or both k 0 ≡ get_or low (i + k) 0
  low_byte k lt =
      get_or-append (take 16 (drop i low)) (take 16 (drop i high)) 0 k (omega (arith, length-chunk i 16 low low_room)) ∙ get_or-chunk i 16 low k 0 lt

  pub high_byte : (k : ℕ) → k < 16 → get_or both (16 + k) 0 ≡ get_or high (i + k) 0
  high_byte k lt =
      ap (λ n. get_or both (n + k) 0) (sym (length-chunk i 16 low low_room))
      ∙ get_or-append-add (take 16 (drop i low)) (take 16 (drop i high)) k 0 ∙ get_or-chunk i 16 high k 0 lt

  -- shuffled, and read as n words of k bytes
  pub words_of : (k q n : ℕ) (ks : List ℕ) → q ≡ (2 ^ 8) ^ k → ((j : ℕ) → Fits w8 (get_or low j 0)) → ((j : ℕ) → Fits w8 (get_or high j 0))
      → digits_l q n (number_l (2 ^ 8) (pick_l 0 both ks)) ≡ map (λ j. number_l (2 ^ 8) (take k (drop (k * j) (pick_l 0 both ks)))) (range_with_len 0 n)
  words_of k q n ks e fl fh =
      let side : (b : List ℕ) → ((j : ℕ) → Fits w8 (get_or b j 0)) → Each1 (λ x. x < 2 ^ 8) (take 16 (drop i b)) =
      λ b f. below_from_Fits w8 (take 16 (drop i b)) (chunk-fits w8 i 16 b f) in
      let bytes = Each1-append (λ x. x < 2 ^ 8) (take 16 (drop i low)) (take 16 (drop i high)) (side low fl) (side high fh) in
      fill_by_all _ (digits_l q n (number_l (2 ^ 8) (pick_l 0 both ks))) n 0 (length-digits_l q n _)
      (λ j lt. get_or_wider (2 ^ 8) k q n (pick_l 0 both ks) j e (picked (2 ^ 8) both ks (omega arith) bytes) lt)

-- a block, as it was read
pub record IsRead (block b : List ℕ) : Type 0 where
  pub same : b ≡ block
  pub bytes : (k : ℕ) → get_or b k 0 < 2 ^ 8

-- the blocks of a group, as they were read
abbrev pub AreRead : (ℕ → List ℕ) → List (List ℕ) → Type 0
AreRead block [] = Unit {0}
AreRead block (b ∷ bs) = IsRead (block 0) b × AreRead (λ k. block (suc k)) bs

read_at : (block : ℕ → List ℕ) (bs : List (List ℕ)) (i : ℕ) → AreRead block bs → i < length bs → IsRead (block i) (get_or bs i [])
read_at block [] i h lt = absurd (omega arith)
read_at block (b ∷ bs) zero h lt = h.0
read_at block (b ∷ bs) (suc i) h lt = read_at (λ k. block (suc k)) bs i h.1 (omega arith)

module _ (bits : ℕ) (word_at : List ℕ → ℕ → ℕ) (fits : (b : List ℕ) (p : ℕ) → ((k : ℕ) → get_or b k 0 < 2 ^ 8) → word_at b p < 2 ^ bits) where
  -- the words at places ps of the block in lane i
  pub group_lanes : (block : ℕ → List ℕ) (bs : List (List ℕ)) (ps : List ℕ) → AreRead block bs → (i : ℕ) → i < length bs
      → map (word_at (block i)) ps ≡ lane_of (lane_at bits) (map (λ p. map (λ b. word_at b p) bs) ps) i
  group_lanes block bs [] reads i lt = refl
  group_lanes block bs (p ∷ ps) reads i lt =
      let r = read_at block bs i reads lt in
      let word = get_or-map (λ b. word_at b p) bs i [] 0 lt in
      let small = mod-eq_of_lt (fits (get_or bs i []) p r.bytes) in
      ap₂ (λ x xs. x ∷ xs) (ap (λ b. word_at b p) (sym r.same) ∙ sym small ∙ ap (λ x. x % 2 ^ bits) (sym word)) (group_lanes block bs ps reads i lt)
