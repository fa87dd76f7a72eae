-- The words of schedules in lanes, read and written.
use Rattle.std.proofs.Common.{◌≡◌, ℕ, ◌+◌, ◌-◌, ◌*◌, ◌/◌, ◌<◌, ◌≤◌, List, [], ◌∷◌, ◌++◌, length, map, take, drop, slice_index, slice_set, refl, sym, ap, ap₂, ◌∙◌, arith, append_assoc, length-drop}
use borrow.Rule.Slice.PartMut.{put_mid}
use Rattle.std.proofs.lemmas.List.{get_or-drop, get_or-take, length-take-le, map-append, take-map, drop-map, drop-drop, take_at, take_all, take-append-drop, take-append-le}
use Rattle.std.proofs.lemmas.List.Elements.{All-take}
use Rattle.std.proofs.Math.Seq.{take-add, drop-append-add}
use Rattle.mbj_types.specs.Aes.{word, schedule, key_schedule, round_key}
use Rattle.mbj_types.specs.Lanes.{lane_of}
use Rattle.mbj_types.proofs.LaneLists.{length-lane_of}
use Rattle.mbj_aes.specs.Bytes.{IsBytes}
use Rattle.mbj_aes_lanes.specs.declared.wide.state.Word.{Word}
use Rattle.mbj_aes_lanes.specs.Inside.Wide.{word_lane}
use Rattle.mbj_aes_lanes.specs.Inside.WideKeys.{IsLaneKey}

-- four bytes, one by one
pub four : (a b c d x y z w : ℕ) → a ≡ x → b ≡ y → c ≡ z → d ≡ w → (a ∷ b ∷ c ∷ d ∷ []) ≡ (x ∷ y ∷ z ∷ w ∷ [])
four a b c d x y z w p q r s = rw (p, q, r, s) refl

four-all : (s : List ℕ) → length s ≡ 4 → slice_index s 0 ∷ slice_index s 1 ∷ slice_index s 2 ∷ slice_index s 3 ∷ [] ≡ s
four-all (a ∷ b ∷ c ∷ d ∷ []) h = refl
four-all s h = absurd (omega arith)

-- byte k of the word at `at`
slice_index-word : (ys : List ℕ) (at k : ℕ) → k < 4 → slice_index ys (at + k) ≡ slice_index (take 4 (drop at ys)) k
slice_index-word ys at k h = sym (get_or-drop at ys k 0) ∙ sym (get_or-take 4 (drop at ys) k 0 h)

-- a word is its four bytes
pub word-read : (ys : List ℕ) (i : ℕ) → 4 * i + 4 ≤ length ys
    → slice_index ys (4 * i) ∷ slice_index ys (4 * i + 1) ∷ slice_index ys (4 * i + 2) ∷ slice_index ys (4 * i + 3) ∷ [] ≡ word ys i
word-read ys i h =
    let at : ℕ = 4 * i in
    let first : at ≡ at + 0 = omega arith in
    let size : length (take 4 (drop at ys)) ≡ 4 = length-take-le 4 (drop at ys) (omega (arith, length-drop at ys)) in
    four (slice_index ys at) (slice_index ys (at + 1)) (slice_index ys (at + 2)) (slice_index ys (at + 3)) _ _ _ _
    (ap (slice_index ys) first ∙ slice_index-word ys at 0 (omega arith)) (slice_index-word ys at 1 (omega arith))
    (slice_index-word ys at 2 (omega arith)) (slice_index-word ys at 3 (omega arith))
    ∙ four-all (take 4 (drop at ys)) size

-- a round key is four words
pub words-round_key : (ys : List ℕ) (r : ℕ) → word ys (4 * r) ++ word ys (4 * r + 1) ++ word ys (4 * r + 2) ++ word ys (4 * r + 3) ≡ round_key ys r
words-round_key ys r =
    let zs : List ℕ = drop (16 * r) ys in
    let at : (k m n : ℕ) → m ≡ 16 * r + n → m ≡ 4 * k → word ys k ≡ take 4 (drop n zs) = λ k m n e f.
    ap (λ (t : ℕ). take 4 (drop t ys)) (sym f ∙ e) ∙ ap (take 4) (sym (drop-drop n (16 * r) ys)) in
    ap₂ (λ xs ys. xs ++ ys)
    (ap₂ (λ xs ys. xs ++ ys)
    (ap₂ (λ xs ys. xs ++ ys) (at (4 * r) (16 * r) 0 (omega arith) (omega arith)) (at (4 * r + 1) (16 * r + 4) 4 (omega arith) (omega arith))
    ∙ sym (take-add 4 4 zs))
    (at (4 * r + 2) (16 * r + 8) 8 (omega arith) (omega arith))
    ∙ sym (take-add 8 4 zs))
    (at (4 * r + 3) (16 * r + 12) 12 (omega arith) (omega arith))
    ∙ sym (take-add 12 4 zs)

-- four words that are written over 16 bytes
pub four-words : (ys : List ℕ) (a0 a1 a2 a3 b0 b1 b2 b3 c0 c1 c2 c3 d0 d1 d2 d3 : ℕ) → length ys ≡ 16
    → let a : List ℕ = a0 ∷ a1 ∷ a2 ∷ a3 ∷ [] in
    let b : List ℕ = b0 ∷ b1 ∷ b2 ∷ b3 ∷ [] in
    let c : List ℕ = c0 ∷ c1 ∷ c2 ∷ c3 ∷ [] in
    let d : List ℕ = d0 ∷ d1 ∷ d2 ∷ d3 ∷ [] in
    let one : List ℕ = take 0 ys ++ a ++ drop 4 ys in
    let two : List ℕ = take 4 one ++ b ++ drop 8 one in
    let three : List ℕ = take 8 two ++ c ++ drop 12 two in
    take 12 three ++ d ++ drop 16 three ≡ a ++ b ++ c ++ d
four-words (y0 ∷ y1 ∷ y2 ∷ y3 ∷ y4 ∷ y5 ∷ y6 ∷ y7 ∷ y8 ∷ y9 ∷ y10 ∷ y11 ∷ y12 ∷ y13 ∷ y14 ∷ y15 ∷ []) a0 a1 a2 a3 b0 b1 b2 b3 c0 c1 c2 c3 d0 d1 d2 d3 h = refl
four-words ys a0 a1 a2 a3 b0 b1 b2 b3 c0 c1 c2 c3 d0 d1 d2 d3 h = absurd (omega arith)

module _ {V : Type 0} (lane : V → ℕ → ℕ) where
  four-written : (xs : List V) (w : Word V) → length xs ≡ 4
      → slice_set (slice_set (slice_set (slice_set xs 0 w.0) 1 w.1) 2 w.2) 3 w.3 ≡ w.0 ∷ w.1 ∷ w.2 ∷ w.3 ∷ []
  four-written (a ∷ b ∷ c ∷ d ∷ []) w h = refl
  four-written xs w h = absurd (omega arith)

  -- words that are written in the midst of others
  pub lane_of-mid : (words new : List V) (at n end k : ℕ) (b : List ℕ) → at + n ≡ end → lane_of lane new k ≡ b
      → lane_of lane (put_mid at n words new) k ≡ take at (lane_of lane words k) ++ b ++ drop end (lane_of lane words k)
  lane_of-mid words new at n end k b e is =
      let f : V → ℕ = λ v. lane v k in
      map-append f (take at words) (new ++ drop n (drop at words))
      ∙ ap₂ (λ xs ys. xs ++ ys) (sym (take-map f at words))
      (map-append f new (drop n (drop at words))
      ∙ ap₂ (λ xs ys. xs ++ ys) is (ap (map f) (drop-drop n at words ∙ ap (λ (m : ℕ). drop m words) e) ∙ sym (drop-map f end words)))
      ∙ sym (append_assoc (take at (lane_of lane words k)) b (drop end (lane_of lane words k)))

  -- four lane words that are written are a word in each lane
  pub lane_of-put : (words : List V) (at n : ℕ) (w : Word V) (k : ℕ) → n ≡ 4 → at + 4 ≤ length words
      → lane_of lane (put_mid at n words (slice_set (slice_set (slice_set (slice_set (take n (drop at words)) 0 w.0) 1 w.1) 2 w.2) 3 w.3)) k
      ≡ take at (lane_of lane words k) ++ word_lane lane w k ++ drop (at + 4) (lane_of lane words k)
  lane_of-put words at n w k e h =
      let size : length (take n (drop at words)) ≡ n = length-take-le n (drop at words) (omega (arith, length-drop at words)) in
      lane_of-mid words _ at n (at + 4) k (word_lane lane w k) (omega arith) (ap (map (λ v. lane v k)) (four-written (take n (drop at words)) w (size ∙ e)))

-- the schedule of a key of nk words
pub key_schedule-words : (nk : ℕ) (key : List ℕ) → length key ≡ 4 * nk → schedule nk key (4 * (nk + 7) - nk) ≡ key_schedule key
key_schedule-words nk key size =
    let words : length key / 4 ≡ nk = omega arith in
    let count : 4 * (nk + 7) ≡ 4 * (nk + 6 + 1) = omega arith in
    rw (words, count) refl

-- 16 words are one round key
pub round_key-whole : {V : Type 0} (lane : V → ℕ → ℕ) (words : List V) (i : ℕ) → length words ≡ 16
    → round_key (lane_of lane words i) 0 ≡ lane_of lane words i
round_key-whole lane words i size = take_all 16 (lane_of lane words i) (omega (arith, length-lane_of lane words i))

-- ---- keys that are put into words

-- both halves of a key over the first 32 bytes
pub both-halves : (b ys first : List ℕ) → length b ≡ 32 → first ≡ take 0 ys ++ take 16 (drop 0 b) ++ drop 16 ys
    → take 16 first ++ take 16 (drop 16 b) ++ drop 32 first ≡ b ++ drop 32 ys
both-halves b ys first size made =
    let low : List ℕ = take 16 b in
    let rest : List ℕ = drop 16 ys in
    let short : length low ≡ 16 = length-take-le 16 b (omega arith) in
    let behind : 32 ≡ length low + 16 = omega arith in
    rw made
    (ap₂ (λ xs zs. xs ++ take 16 (drop 16 b) ++ zs) (take_at low rest 16 short)
    (ap (λ (n : ℕ). drop n (low ++ rest)) behind ∙ drop-append-add low rest 16 ∙ drop-drop 16 16 ys)
    ∙ ap (λ xs. xs ++ drop 32 ys)
    (ap (λ xs. low ++ xs) (take_all 16 (drop 16 b) (omega (arith, length-drop 16 b))) ∙ take-append-drop 16 b))

-- the words of a key in an array, before others
pub IsLaneKey-array : (nk : ℕ) (b rest ys : List ℕ) → nk ≤ 8 → length b ≡ 32 → IsBytes b → ys ≡ b ++ rest → IsLaneKey nk (take (4 * nk) b) ys
IsLaneKey-array nk b rest ys few size bytes made =
    record {
      size = length-take-le (4 * nk) b (omega arith);
      bytes = All-take (λ x. x < 256) (4 * nk) b bytes;
      first = ap (take (4 * nk)) made ∙ take-append-le (4 * nk) b rest (omega arith);
    }
