-- The blocks of a text that grows, and the hash of runs of blocks.
use Rattle.std.proofs.Common.{◌≡◌, ℕ, inl, inr, zero, suc, ◌+◌, ◌-◌, ◌*◌, ◌/◌, ◌%◌, ◌<◌, ◌≤◌, List, [], ◌∷◌, ◌++◌, length, take, drop, map, replicate, refl, sym, ap, ap₂, ◌∙◌, arith, length-drop, length-append, append-nil, append_assoc}
use Rattle.std.specs.Simd.{first_chunks}
use Rattle.std.proofs.lemmas.Bool.{cases_lt}
use Rattle.std.proofs.lemmas.List.{take_all, drop_all, take_at, drop_at, take-append-le, drop-append-le, take-append-drop, drop-drop, length-take-le, map-append, nil_from_length}
use Rattle.mbj_types.specs.Blocks.{xor_lists, first_blocks, blocks, filled_block, filled_blocks}
use Rattle.mbj_types.specs.Ghash.{block_product, ghash_from}

-- one run after another
pub ghash_from-append : (h y : List ℕ) (xs ys : List (List ℕ))
    → ghash_from h y (xs ++ ys) ≡ ghash_from h (ghash_from h y xs) ys
ghash_from-append h y [] ys = refl
ghash_from-append h y (x ∷ xs) ys = ghash_from-append h (block_product (xor_lists y x) h) xs ys

-- nothing but zeros changes nothing
pub zeros-xored : (n : ℕ) (xs : List ℕ) → length xs ≡ n → xor_lists (replicate n 0) xs ≡ xs
zeros-xored zero xs h = sym (nil_from_length xs h)
zeros-xored (suc n) [] h = absurd (omega arith)
zeros-xored (suc n) (x ∷ xs) h = ap (λ ys. x ∷ ys) (zeros-xored n xs (omega arith))

-- ---- blocks

-- k whole blocks, and m more
pub first_blocks-append : (k m : ℕ) (xs ys : List ℕ) → length xs ≡ 16 * k
    → first_blocks (k + m) (xs ++ ys) ≡ first_blocks k xs ++ first_blocks m ys
first_blocks-append zero m xs ys h =
    let none : xs ≡ [] = nil_from_length xs (omega arith) in
    let many : 0 + m ≡ m = omega arith in
    ap₂ (λ (n : ℕ) zs. first_blocks n (zs ++ ys)) many none
first_blocks-append (suc k) m xs ys h =
    let many : suc k + m ≡ suc (k + m) = omega arith in
    ap (λ (n : ℕ). first_blocks n (xs ++ ys)) many
    ∙ ap₂ (λ b bs. b ∷ bs) (take-append-le 16 xs ys (omega arith))
    (ap (first_blocks (k + m)) (drop-append-le 16 xs ys (omega arith))
    ∙ first_blocks-append k m (drop 16 xs) ys (omega (arith, length-drop 16 xs)))

-- blocks in front of anything
pub first_blocks-front : (k : ℕ) (xs ys : List ℕ) → 16 * k ≤ length xs → first_blocks k (xs ++ ys) ≡ first_blocks k xs
first_blocks-front zero xs ys h = refl
first_blocks-front (suc k) xs ys h =
    ap₂ (λ b bs. b ∷ bs) (take-append-le 16 xs ys (omega arith))
    (ap (first_blocks k) (drop-append-le 16 xs ys (omega arith))
    ∙ first_blocks-front k (drop 16 xs) ys (omega (arith, length-drop 16 xs)))

-- the chunks of std are such blocks
pub first_blocks-chunks : (k : ℕ) (xs : List ℕ) → first_chunks 16 k xs ≡ first_blocks k xs
first_blocks-chunks zero xs = refl
first_blocks-chunks (suc k) xs = ap (λ bs. take 16 xs ∷ bs) (first_blocks-chunks k (drop 16 xs))

-- how many whole blocks a text has
abbrev pub whole : List ℕ → ℕ
whole c = length c / 16

-- those blocks
abbrev pub whole_blocks : List ℕ → List (List ℕ)
whole_blocks c = first_blocks (whole c) c

-- and what is behind them
abbrev pub behind : List ℕ → List ℕ
behind c = drop (16 * whole c) c

pub length-behind : (c : List ℕ) → length (behind c) ≡ length c % 16
length-behind c = length-drop (16 * whole c) c ∙ omega arith

-- the blocks of a text alone, and of what stands in front of it
front_blocks : (k : ℕ) (c : List ℕ) → 16 * k ≤ length c → first_blocks k c ≡ first_blocks k (take (16 * k) c)
front_blocks k c h =
    let front : List ℕ = take (16 * k) c in
    let back : List ℕ = drop (16 * k) c in
    let none : k + 0 ≡ k = omega arith in
    ap₂ first_blocks (sym none) (sym (take-append-drop (16 * k) c))
    ∙ first_blocks-append k 0 front back (length-take-le (16 * k) c h)
    ∙ append-nil (first_blocks k front)

module _ (c p : List ℕ) where
  -- what is behind the whole blocks, and what comes
  abbrev pub open_part : List ℕ
  open_part = behind c ++ p

  joined : c ++ p ≡ take (16 * whole c) c ++ open_part
  joined =
      ap (λ xs. xs ++ p) (sym (take-append-drop (16 * whole c) c))
      ∙ append_assoc (take (16 * whole c) c) (behind c) p

  front_size : length (take (16 * whole c) c) ≡ 16 * whole c
  front_size = length-take-le (16 * whole c) c (omega arith)

  count : whole (c ++ p) ≡ whole c + whole open_part
  count = omega (arith, length-append c p, length-append (behind c) p, length-behind c)

  -- the whole blocks are those of before, and those of the open part
  pub whole_blocks-append : whole_blocks (c ++ p) ≡ whole_blocks c ++ whole_blocks open_part
  whole_blocks-append =
      ap₂ first_blocks count joined
      ∙ first_blocks-append (whole c) (whole open_part) (take (16 * whole c) c) open_part front_size
      ∙ ap (λ bs. bs ++ whole_blocks open_part) (sym (front_blocks (whole c) c (omega arith)))

  pub behind-append : behind (c ++ p) ≡ behind open_part
  behind-append =
      let place : 16 * (whole c + whole open_part) ≡ 16 * whole c + 16 * whole open_part = omega arith in
      ap₂ (λ (n : ℕ) xs. drop (16 * n) xs) count joined
      ∙ ap (λ (n : ℕ). drop n (take (16 * whole c) c ++ open_part)) place
      ∙ sym (drop-drop (16 * whole open_part) (16 * whole c) (take (16 * whole c) c ++ open_part))
      ∙ ap (drop (16 * whole open_part)) (drop_at (take (16 * whole c) c) open_part (16 * whole c) front_size)

-- a block that is filled may be whole
pub behind-filled : (d rest : List ℕ) → length d ≤ 16 → take (length d % 16) (d ++ rest) ≡ behind d
behind-filled d rest h = elim (cases_lt (length d) 16) [
  | inl less ↦
      let size : length d % 16 ≡ length d = omega arith in
      let none : 16 * whole d ≡ 0 = omega arith in
      ap (λ (n : ℕ). take n (d ++ rest)) size
      ∙ take_at d rest (length d) refl
      ∙ sym (ap (λ (n : ℕ). drop n d) none)
  | inr full ↦
      let size : length d % 16 ≡ 0 = omega arith in
      ap (λ (n : ℕ). take n (d ++ rest)) size ∙ sym (drop_all (16 * whole d) d (omega arith))
]

-- ---- blocks filled with zero bytes

filled-whole : (p : List ℕ) → length p ≡ 16 → filled_block p ≡ p
filled-whole p h =
    let none : 16 - length p ≡ 0 = omega arith in
    ap (λ (n : ℕ). p ++ replicate n 0) none ∙ append-nil p

filled-first : (k : ℕ) (c : List ℕ) → 16 * k ≤ length c → map filled_block (first_blocks k c) ≡ first_blocks k c
filled-first zero c h = refl
filled-first (suc k) c h =
    ap₂ (λ b bs. b ∷ bs) (filled-whole (take 16 c) (length-take-le 16 c (omega arith)))
    (filled-first k (drop 16 c) (omega (arith, length-drop 16 c)))

-- a text of whole blocks
pub filled_blocks-whole : (c : List ℕ) → length c % 16 ≡ 0 → filled_blocks c ≡ whole_blocks c
unfolding blocks
filled_blocks-whole c h =
    let many : (length c + 15) / 16 ≡ whole c = omega arith in
    ap (λ (n : ℕ). map filled_block (first_blocks n c)) many ∙ filled-first (whole c) c (omega arith)

-- any other text
pub filled_blocks-last : (c : List ℕ) → 0 < length c % 16 → filled_blocks c ≡ whole_blocks c ++ filled_block (behind c) ∷ []
unfolding blocks
filled_blocks-last c h =
    let front : List ℕ = take (16 * whole c) c in
    let many : (length c + 15) / 16 ≡ whole c + 1 = omega arith in
    let front_size : length front ≡ 16 * whole c = length-take-le (16 * whole c) c (omega arith) in
    let last : take 16 (behind c) ≡ behind c = take_all 16 (behind c) (omega (arith, length-behind c)) in
    let cut : first_blocks (whole c + 1) c ≡ whole_blocks c ++ take 16 (behind c) ∷ [] =
    ap (first_blocks (whole c + 1)) (sym (take-append-drop (16 * whole c) c))
    ∙ first_blocks-append (whole c) 1 front (behind c) front_size
    ∙ ap (λ bs. bs ++ take 16 (behind c) ∷ []) (sym (front_blocks (whole c) c (omega arith))) in
    ap (λ (n : ℕ). map filled_block (first_blocks n c)) many
    ∙ ap (map filled_block) (cut ∙ ap (λ b. whole_blocks c ++ b ∷ []) last)
    ∙ map-append filled_block (whole_blocks c) (behind c ∷ [])
    ∙ ap (λ bs. bs ++ filled_block (behind c) ∷ []) (filled-first (whole c) c (omega arith))
