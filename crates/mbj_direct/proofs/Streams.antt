-- The key stream of GCM, byte by byte.
use Rattle.std.proofs.Common.{◌≡◌, ℕ, zero, suc, ◌+◌, ◌-◌, ◌*◌, ◌/◌, ◌%◌, ◌^◌, ◌≤◌, inl, inr, min, List, [], ◌∷◌, ◌++◌, length, take, drop, get_or, bit_xor, refl, sym, ap, ap₂, ◌∙◌, arith, length-drop}
use Rattle.std.specs.List.{concat}
use Rattle.std.specs.Int.{w32, to_be_bytes, from_be_bytes}
use Rattle.std.proofs.lemmas.Bool.{cases_lt}
use Rattle.std.proofs.lemmas.List.{drop_at, drop_more, length-take, length-take-le, take-append-drop, nil_from_length}
use Rattle.mbj_types.specs.Blocks.{xor_lists, blocks, zero_block}
use Rattle.mbj_types.specs.Gcm.{inc32, gctr, gcm_text, pre_counter_block}
use Rattle.mbj_blocks.proofs.Blocks.{blocks-nil, blocks-cons}
use Rattle.mbj_gcm.specs.Incremented.{incremented}
use Rattle.mbj_gcm.proofs.IncrementedCounters.{incremented-1, inc32-incremented}
use Rattle.mbj_direct.specs.Inside.Stream.{stream_byte, streamed}

-- the number of a counter block counts modulo 2^32
pub incremented-mod : (j : List ℕ) (m n : ℕ) → m % 2 ^ 32 ≡ n % 2 ^ 32 → incremented j m ≡ incremented j n
unfolding incremented
incremented-mod j m n e =
    let start : ℕ = from_be_bytes w32 (drop 12 j) in
    let same : (start + m) % 2 ^ 32 ≡ (start + n) % 2 ^ 32 = omega arith in
    ap (λ (k : ℕ). take 12 j ++ to_be_bytes w32 k) same

module _ (e : List ℕ → List ℕ) (j : List ℕ) where
  -- one part behind another
  pub streamed-append : (n : ℕ) (xs ys : List ℕ)
      → streamed e j n (xs ++ ys) ≡ streamed e j n xs ++ streamed e j (n + length xs) ys
  streamed-append n [] ys =
      let same : n + 0 ≡ n = omega arith in
      ap (λ (k : ℕ). streamed e j k ys) (sym same)
  streamed-append n (x ∷ xs) ys =
      let place : n + 1 + length xs ≡ n + suc (length xs) = omega arith in
      ap (λ zs. bit_xor x (stream_byte e j n) ∷ zs)
      (streamed-append (n + 1) xs ys ∙ ap (λ (k : ℕ). streamed e j (n + 1) xs ++ streamed e j k ys) place)

  pub length-streamed : (n : ℕ) (xs : List ℕ) → length (streamed e j n xs) ≡ length xs
  length-streamed n [] = refl
  length-streamed n (x ∷ xs) = ap suc (length-streamed (n + 1) xs)

  -- what the second of two parts becomes
  pub streamed-behind : (xs ys : List ℕ) → drop (length xs) (streamed e j 0 (xs ++ ys)) ≡ streamed e j (length xs) ys
  streamed-behind xs ys =
      let place : 0 + length xs ≡ length xs = omega arith in
      ap (drop (length xs)) (streamed-append 0 xs ys)
      ∙ drop_at (streamed e j 0 xs) (streamed e j (0 + length xs) ys) (length xs) (length-streamed 0 xs)
      ∙ ap (λ (k : ℕ). streamed e j k ys) place

  -- places are counted modulo 2^64
  stream_byte-mod : (m n : ℕ) → m % 2 ^ 64 ≡ n % 2 ^ 64 → stream_byte e j m ≡ stream_byte e j n
  stream_byte-mod m n h =
      let number : (m / 16 + 1) % 2 ^ 32 ≡ (n / 16 + 1) % 2 ^ 32 = omega arith in
      let place : m % 16 ≡ n % 16 = omega arith in
      ap₂ (λ b (i : ℕ). get_or (e b) i 0) (incremented-mod j (m / 16 + 1) (n / 16 + 1) number) place

  pub streamed-mod : (m n : ℕ) (xs : List ℕ) → m % 2 ^ 64 ≡ n % 2 ^ 64 → streamed e j m xs ≡ streamed e j n xs
  streamed-mod m n [] h = refl
  streamed-mod m n (x ∷ xs) h =
      ap₂ (λ y ys. bit_xor x y ∷ ys) (stream_byte-mod m n h) (streamed-mod (m + 1) (n + 1) xs (omega arith))

  -- within block k
  pub streamed-within : (k r : ℕ) (xs : List ℕ) → r + length xs ≤ 16 → length (e (incremented j (k + 1))) ≡ 16
      → streamed e j (16 * k + r) xs ≡ xor_lists xs (drop r (e (incremented j (k + 1))))
  streamed-within k r [] h l = refl
  streamed-within k r (x ∷ xs) h l =
      let m : List ℕ = e (incremented j (k + 1)) in
      let block : (16 * k + r) / 16 ≡ k = omega arith in
      let place : (16 * k + r) % 16 ≡ r = omega arith in
      let next : 16 * k + r + 1 ≡ 16 * k + (r + 1) = omega arith in
      let here : stream_byte e j (16 * k + r) ≡ get_or m r 0 =
      ap₂ (λ (b i : ℕ). get_or (e (incremented j (b + 1))) i 0) block place in
      ap₂ (λ y ys. bit_xor x y ∷ ys) here
      (ap (λ (n : ℕ). streamed e j n xs) next ∙ streamed-within k (r + 1) xs (omega arith) l)
      ∙ ap (xor_lists (x ∷ xs)) (sym (drop_more m r 0 (omega arith)))

  -- what fills the open block behind n bytes
  pub streamed-open : ((b : List ℕ) → length (e b) ≡ 16) → (n used : ℕ) (xs : List ℕ) → used ≡ n % 16
      → length xs ≤ (16 - n % 16) % 16 → xor_lists xs (drop used (e (incremented j ((n + 15) / 16)))) ≡ streamed e j n xs
  streamed-open sizes n used [] u h = refl
  streamed-open sizes n used (x ∷ xs) u h =
      let number : (n + 15) / 16 ≡ n / 16 + 1 = omega arith in
      let place : 16 * (n / 16) + n % 16 ≡ n = omega arith in
      ap₂ (λ (i b : ℕ). xor_lists (x ∷ xs) (drop i (e (incremented j b)))) u number
      ∙ sym (streamed-within (n / 16) (n % 16) (x ∷ xs) (omega arith) (sizes (incremented j (n / 16 + 1))))
      ∙ ap (λ (i : ℕ). streamed e j i (x ∷ xs)) place

  -- a text of at most n blocks, from block k on
  gctr-blocks : ((b : List ℕ) → length (e b) ≡ 16) → length j ≡ 16 → (n k : ℕ) (text : List ℕ) → length text ≤ 16 * n
      → concat (gctr e (incremented j (k + 1)) (blocks text)) ≡ streamed e j (16 * k) text
  gctr-blocks sizes size zero k text h =
      let none : text ≡ [] = nil_from_length text (omega arith) in
      ap (λ bs. concat (gctr e (incremented j (k + 1)) bs)) (blocks-nil text (omega arith))
      ∙ ap (streamed e j (16 * k)) (sym none)
  gctr-blocks sizes size (suc n) k text h = elim (cases_lt 0 (length text)) [
    | inl some ↦
        let first : List ℕ = take 16 text in
        let left : List ℕ = drop 16 text in
        let m : List ℕ = e (incremented j (k + 1)) in
        let start : 16 * k + 0 ≡ 16 * k = omega arith in
        let first_size : length first ≡ min 16 (length text) = length-take 16 text in
        let left_size : length left ≡ length text - 16 = length-drop 16 text in
        let head : xor_lists first m ≡ streamed e j (16 * k) first =
        sym (streamed-within k 0 first (omega arith) (sizes (incremented j (k + 1))))
        ∙ ap (λ (i : ℕ). streamed e j i first) start in
        let rest : concat (gctr e (inc32 (incremented j (k + 1))) (blocks left)) ≡ streamed e j (16 * (k + 1)) left =
        ap (λ c. concat (gctr e c (blocks left))) (inc32-incremented j (k + 1) size)
        ∙ gctr-blocks sizes size n (k + 1) left (omega arith) in
        let place : streamed e j (16 * (k + 1)) left ≡ streamed e j (16 * k + length first) left =
        elim (cases_lt (length text) 16) [
          | inl less ↦
              let none : left ≡ [] = nil_from_length left (omega arith) in
              ap (streamed e j (16 * (k + 1))) none ∙ ap (streamed e j (16 * k + length first)) (sym none)
          | inr whole ↦
              let next : 16 * (k + 1) ≡ 16 * k + length first = omega arith in
              ap (λ (i : ℕ). streamed e j i left) next
        ] in
        ap (λ bs. concat (gctr e (incremented j (k + 1)) bs)) (blocks-cons text some)
        ∙ ap₂ (λ xs ys. xs ++ ys) head (rest ∙ place)
        ∙ sym (streamed-append (16 * k) first left)
        ∙ ap (streamed e j (16 * k)) (take-append-drop 16 text)
    | inr nothing ↦
        let none : text ≡ [] = nil_from_length text (omega arith) in
        ap (λ bs. concat (gctr e (incremented j (k + 1)) bs)) (blocks-nil text (omega arith))
        ∙ ap (streamed e j (16 * k)) (sym none)
  ]

  -- a text from block k on
  pub gctr-streamed : ((b : List ℕ) → length (e b) ≡ 16) → length j ≡ 16 → (k : ℕ) (text : List ℕ)
      → concat (gctr e (inc32 (incremented j k)) (blocks text)) ≡ streamed e j (16 * k) text
  gctr-streamed sizes size k text =
      ap (λ c. concat (gctr e c (blocks text))) (inc32-incremented j k size)
      ∙ gctr-blocks sizes size (length text) k text (omega arith)

  -- a part of a text behind n bytes of it: what fills the open block, and the rest
  pub streamed-part : (n m : ℕ) (part first rest : List ℕ) → m ≡ min ((16 - n % 16) % 16) (length part)
      → first ≡ streamed e j n (take m part) → rest ≡ streamed e j (16 * ((n + 15) / 16)) (drop m part)
      → first ++ rest ≡ streamed e j n part
  streamed-part n m part first rest h f g =
      let front : List ℕ = take m part in
      let back : List ℕ = drop m part in
      let front_size : length front ≡ m = length-take-le m part (omega arith) in
      let back_size : length back ≡ length part - m = length-drop m part in
      let place : streamed e j (16 * ((n + 15) / 16)) back ≡ streamed e j (n + length front) back =
      elim (cases_lt 0 (length back)) [
        | inl some ↦
            let next : 16 * ((n + 15) / 16) ≡ n + length front = omega arith in
            ap (λ (i : ℕ). streamed e j i back) next
        | inr nothing ↦
            let none : back ≡ [] = nil_from_length back (omega arith) in
            ap (streamed e j (16 * ((n + 15) / 16))) none ∙ ap (streamed e j (n + length front)) (sym none)
      ] in
      ap₂ (λ xs ys. xs ++ ys) f (g ∙ place)
      ∙ sym (streamed-append n front back)
      ∙ ap (streamed e j n) (take-append-drop m part)

-- ---- whole texts

module _ (e : List ℕ → List ℕ) (iv : List ℕ) (sizes : (b : List ℕ) → length (e b) ≡ 16)
    (size : length (pre_counter_block (e zero_block) iv) ≡ 16) where
  abbrev first : List ℕ
  first = pre_counter_block (e zero_block) iv

  -- the other text
  pub gcm_text-streamed : (text : List ℕ) → gcm_text e iv text ≡ streamed e first 0 text
  gcm_text-streamed text =
      ap (λ c. concat (gctr e c (blocks text))) (sym (incremented-1 first))
      ∙ gctr-blocks e first sizes size (length text) 0 text (omega arith)

  pub length-gcm_text : (text : List ℕ) → length (gcm_text e iv text) ≡ length text
  length-gcm_text text = ap length (gcm_text-streamed text) ∙ length-streamed e first 0 text

  -- a part of it
  pub gcm_text-behind : (text part : List ℕ)
      → drop (length text) (gcm_text e iv (text ++ part)) ≡ streamed e first (length text) part
  gcm_text-behind text part =
      ap (drop (length text)) (gcm_text-streamed (text ++ part)) ∙ streamed-behind e first text part

  -- a text and a part behind it
  pub gcm_text-append : (text part : List ℕ)
      → gcm_text e iv (text ++ part) ≡ gcm_text e iv text ++ streamed e first (length text) part
  gcm_text-append text part =
      let place : 0 + length text ≡ length text = omega arith in
      gcm_text-streamed (text ++ part)
      ∙ streamed-append e first 0 text part
      ∙ ap₂ (λ xs (k : ℕ). xs ++ streamed e first k part) (sym (gcm_text-streamed text)) place
