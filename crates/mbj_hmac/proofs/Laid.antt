-- The blocks of an entry stand where the entry reads them.
use Rattle.std.proofs.Common.{◌≡◌, ℕ, ◌+◌, ◌-◌, ◌*◌, ◌/◌, ◌^◌, ◌≤◌, ◌<◌, ◌⊎◌, inl, inr, List, [], ◌++◌, length, take, drop, refl, sym, ap, ◌∙◌, arith, length-append, length-drop, true}
use Rattle.std.proofs.lemmas.List.{length-take-le, take_at, append_assoc}
use Rattle.std.proofs.lemmas.Bool.{lt-ltb, cases_lt}
use Rattle.std.specs.Prelude.{nat_lt, if◌then◌else◌}
use Rattle.mbj_types.specs.declared.class.HashName.{HashName}
use Rattle.mbj_hmac.specs.declared.form.Form.{Form}
use Rattle.mbj_hmac.specs.declared.form.Form.TheVariants.{Plain, Keyed, States}
use Rattle.mbj_hmac.specs.Forms.{counted, has_pads, made_rounds_of, outer_rounds_of}
use Rattle.mbj_hmac.specs.Rounds.{Hashing, HmacState, padded, message, inner_text, block_before}
use Rattle.mbj_hmac.specs.Inside.Layout.{IsStandard, whole_blocks, tail_blocks, fill, seen, IsKept, IsSound}
use Rattle.mbj_hmac.proofs.Numbers.{size_range, before_range, split, rounds_is, fill_is, fill_on, piece_fill, length-padding_of, tail_range, times_le, blocks}
use Rattle.mbj_hmac.proofs.Texts.{block_left, block_right, block_take, block_drop, block_range}

-- the blocks before the message: under a key there is the inner pad
abbrev pub front_blocks : Form → ℕ
front_blocks Plain = 0
front_blocks Keyed = 1
front_blocks States = 0

-- the bytes that lie behind a stored state, of blocks of b bytes
abbrev pub bytes_behind : Form → ℕ → ℕ
bytes_behind Plain b = 0
bytes_behind Keyed b = 0
bytes_behind States b = b

pub counted_is : (form : Form) (b n : ℕ) → counted form b n ≡ bytes_behind form b + n
counted_is Plain b n = omega arith
counted_is Keyed b n = omega arith
counted_is States b n = refl

-- what is sound is kept
pub kept : (h : Hashing) (ends : List ℕ) (e : HmacState) → IsSound h ends e → IsKept h ends e
kept h ends e s = ((λ left. s), s.2, s.5, s.4)

-- the rounds of an outer hash are two at most
pub outer_few : (form : Form) → outer_rounds_of form ≤ 2
outer_few Plain = omega arith
outer_few Keyed = omega arith
outer_few States = omega arith

module _ (h : Hashing) (std : IsStandard h) where
  abbrev b : ℕ
  b = h.block_bytes

  -- before the message there is a block, or nothing
  pub front_bytes : (form : Form) → (bytes_behind form b + b * front_blocks form ≡ 0) ⊎ (bytes_behind form b + b * front_blocks form ≡ b)
  front_bytes Plain = inl (omega arith)
  front_bytes Keyed = inr (omega arith)
  front_bytes States = inr (omega arith)

  -- the padding behind p bytes and a message of n
  pub length-padding : (p n : ℕ) → (p ≡ 0) ⊎ (p ≡ b) → n < 2 ^ 32 → length (h.padding (p + n)) ≡ 1 + fill b n + 8
  length-padding p n is lt =
      let room : p + n < 2 ^ 33 = omega (arith, before_range b std.size p is) in
      ap length (std.pads (p + n) room) ∙ length-padding_of b std.size (p + n) ∙ ap (λ k. 1 + k + 8) (fill_on b std.size p n is)

  -- a block and a digest, padded
  pub length-padded : (a : HashName) (back s : List ℕ) → length back ≡ b → length (padded h (back ++ h.digest a s)) ≡ b + b
  length-padded a back s l =
      let d : List ℕ = h.digest a s in
      let bd : length (back ++ d) ≡ b + length d = length-append back d ∙ ap (λ n. n + length d) l in
      let small : length d + 1 + b / 8 ≤ b = std.room a s in
      let room : b + length d < 2 ^ 33 = omega (arith, (size_range b std.size).1) in
      let p : length (h.padding (length (back ++ d))) ≡ 1 + fill b (b + length d) + 8 =
      ap (λ n. length (h.padding n)) bd ∙ ap length (std.pads (b + length d) room) ∙ length-padding_of b std.size (b + length d) in
      omega (arith, length-append (back ++ d) (h.padding (length (back ++ d))), piece_fill b std.size (length d) small)

  -- if pads are, the outer one is a block
  pub length-back : (form : Form) (ends : List ℕ) (len : ℕ) → length ends ≡ 4 * b
      → length (if has_pads form then take b (drop (b * (tail_blocks b len + 1)) ends) else []) ≡ b * (outer_rounds_of form - 1)
  length-back Plain ends len whole = omega arith
  length-back Keyed ends len whole =
      let at : ℕ = b * (tail_blocks b len + 1) in
      let room : b * (tail_blocks b len + 2) ≤ b * 4 = times_le b std.size (tail_blocks b len + 2) 4 (omega (arith, (tail_range b std.size len).1)) in
      length-take-le b (drop at ends) (omega (arith, whole, length-drop at ends)) ∙ omega arith
  length-back States ends len whole = omega arith

  module _ (packet chain inner start : List ℕ) (a : HashName) (form : Form) (ends : List ℕ) (rest off len : ℕ) where
    abbrev e : HmacState
    e = seen h packet rest chain inner start a form ends off len

    abbrev text : List ℕ
    text = inner_text h e

    abbrev w : ℕ
    w = whole_blocks b len

    abbrev t : ℕ
    t = tail_blocks b len

    -- the rounds of the outer hash, and the blocks before the message
    abbrev o : ℕ
    o = outer_rounds_of form

    abbrev f : ℕ
    f = front_blocks form

    -- the bytes behind a stored state
    abbrev p : ℕ
    p = bytes_behind form b

    pub length-message : IsSound h ends e → length (message e) ≡ len
    length-message s = length-take-le len (drop off packet) (omega (arith, s.0, length-drop off packet))

    pub length-front : IsSound h ends e → length e.front ≡ b * f
    length-front s = go form
      where
        go : (k : Form) → length (if has_pads k then take b ends else []) ≡ b * front_blocks k
        go Plain = omega arith
        go Keyed = length-take-le b ends (omega (arith, s.4, (size_range b std.size).1)) ∙ omega arith
        go States = omega arith

    pub length-text : IsSound h ends e → length text ≡ b * (f + w + t)
    length-text s =
        let fm : length (e.front ++ message e) ≡ b * f + len = omega (arith, length-append e.front (message e), length-front s, length-message s) in
        let count : ℕ = counted form b (length (e.front ++ message e)) in
        let sum : count ≡ p + b * f + len = counted_is form b (length (e.front ++ message e)) ∙ omega (arith, fm) in
        let long : length (h.padding count) ≡ 1 + fill b len + 8 =
        ap (λ n. length (h.padding n)) sum ∙ length-padding (p + b * f) len (front_bytes form) s.2 in
        omega (arith, length-append (e.front ++ message e) (h.padding count), split b std.size len, fill_is b std.size len)

    -- how many blocks the inner hash reads
    text_blocks : IsSound h ends e → length text / b ≡ f + w + t
    text_blocks s = blocks b std.size (f + w + t) (length text) (length-text s)

    -- a block of the packet
    pub packet_laid : (r q k : ℕ) → IsSound h ends e → t + o < r → r + q ≡ t + o + w → k ≡ off + b * q → take b (drop k packet) ≡ block_before h e r
    packet_laid r q k s lt at ek =
        let yes : nat_lt o r ≡ true = lt-ltb o r (omega arith) in
        let place : length text / b + o - r ≡ q + f = omega (arith, text_blocks s) in
        let j : (length text / b + o - r) * b ≡ b * f + b * q = ap (λ n. n * b) place ∙ omega arith in
        let before : q + 1 ≤ w = omega arith in
        let inside : b * q + b ≤ len = omega (arith, times_le b std.size (q + 1) w before, split b std.size len) in
        let pad : List ℕ = h.padding (counted form b (length (e.front ++ message e))) in
        let lm : length (message e) ≡ len = length-message s in
        let read : take b (drop (b * f + b * q) ((e.front ++ message e) ++ pad)) ≡ take b (drop k packet) =
        ap (λ t. take b (drop (b * f + b * q) t)) (append_assoc e.front (message e) pad)
        ∙ block_right b (b * f + b * q) (b * q) e.front (message e ++ pad) (ap (λ n. n + b * q) (length-front s))
        ∙ block_left b (b * q) (message e) pad (omega arith)
        ∙ block_range b (b * q) off len packet inside
        ∙ ap (λ i. take b (drop i packet)) (sym ek) in
        rw (yes, j) (sym read)

    -- a block of the message behind its whole ones
    tail_laid : (r q k : ℕ) → IsSound h ends e → o < r → r + q ≡ t + o → k ≡ b + b * q → take b (drop k ends) ≡ block_before h e r
    tail_laid r q k s lt at ek =
        let yes : nat_lt o r ≡ true = lt-ltb o r lt in
        let place : length text / b + o - r ≡ f + w + q = omega (arith, text_blocks s) in
        let at_front : (length e.front + b * w) + b * q ≡ (f + w + q) * b = omega (arith, length-front s) in
        let j : (length e.front + b * w) + b * q ≡ (length text / b + o - r) * b = at_front ∙ sym (ap (λ n. n * b) place) in
        let before : q + 1 ≤ t = omega arith in
        let inside : b * q + b ≤ b * t = omega (arith, times_le b std.size (q + 1) t before) in
        ap (λ i. take b (drop i ends)) ek ∙ sym (block_drop b (b * q) b ends)
        ∙ sym (block_take b (b * q) (b * t) (drop b ends) inside) ∙ ap (λ x. take b (drop (b * q) x)) s.3
        ∙ block_drop b (b * q) (length e.front + b * w) text
        ∙ ap (λ i. take b (drop i text)) j
        ∙ sym (rw yes refl)

  -- the outer pad
  back_laid : (packet chain inner start : List ℕ) (a : HashName) (ends : List ℕ) (rest off len k : ℕ)
      → IsSound h ends (seen h packet rest chain inner start a Keyed ends off len) → k ≡ b * (tail_blocks b len + 1)
      → take b (drop k ends) ≡ block_before h (seen h packet rest chain inner start a Keyed ends off len) 2
  back_laid packet chain inner start a ends rest off len k s ek =
      let e : HmacState = seen h packet rest chain inner start a Keyed ends off len in
      let d : List ℕ = h.digest a inner in
      let pad : List ℕ = h.padding (counted Keyed b (length (e.back ++ d))) in
      let size : length e.back ≡ b = length-back Keyed ends len s.4 ∙ omega arith in
      let first : take b (e.back ++ (d ++ pad)) ≡ e.back = take_at e.back (d ++ pad) b size in
      let none : 0 * b ≡ 0 = omega arith in
      ap (λ i. take b (drop i ends)) ek ∙ sym first ∙ ap (take b) (sym (append_assoc e.back d pad))
      ∙ ap (λ n. take b (drop n ((e.back ++ d) ++ pad))) (sym none)

  -- a block behind the packet's whole blocks, but for that which is made
  pub end_laid : (packet chain inner start : List ℕ) (a : HashName) (form : Form) (ends : List ℕ) (rest off len r q k : ℕ)
      → IsSound h ends (seen h packet rest chain inner start a form ends off len) → made_rounds_of form < r
      → r + q ≡ tail_blocks b len + outer_rounds_of form → k ≡ b + b * q
      → take b (drop k ends) ≡ block_before h (seen h packet rest chain inner start a form ends off len) r
  end_laid packet chain inner start a Plain ends rest off len r q k s some at ek =
      tail_laid packet chain inner start a Plain ends rest off len r q k s some at ek
  end_laid packet chain inner start a States ends rest off len r q k s some at ek =
      tail_laid packet chain inner start a States ends rest off len r q k s some at ek
  end_laid packet chain inner start a Keyed ends rest off len r q k s some at ek = elim (cases_lt 2 r) [
    | inl lt ↦ tail_laid packet chain inner start a Keyed ends rest off len r q k s lt at ek
    | inr le ↦
        let two : r ≡ 2 = omega arith in
        let all : q ≡ tail_blocks b len = omega arith in
        rw two (back_laid packet chain inner start a ends rest off len k s (ek ∙ ap (λ n. b + b * n) all ∙ omega arith))
  ]

  -- the first block is there under a key alone
  pub first_laid : (packet chain inner start : List ℕ) (a : HashName) (form : Form) (ends : List ℕ) (rest off len r : ℕ)
      → IsSound h ends (seen h packet rest chain inner start a form ends off len) → r ≤ rest
      → tail_blocks b len + outer_rounds_of form + whole_blocks b len < r
      → take b ends ≡ block_before h (seen h packet rest chain inner start a form ends off len) r
  first_laid packet chain inner start a Keyed ends rest off len r s le lt =
      let e : HmacState = seen h packet rest chain inner start a Keyed ends off len in
      let text : List ℕ = inner_text h e in
      let yes : nat_lt 2 r ≡ true = lt-ltb 2 r (omega arith) in
      let place : length text / b + 2 - r ≡ 0 = omega (arith, text_blocks packet chain inner start a Keyed ends rest off len s, rounds_is b std.size len, s.1) in
      let j : (length text / b + 2 - r) * b ≡ 0 = ap (λ n. n * b) place ∙ omega arith in
      let lf : length (take b ends) ≡ b = length-front packet chain inner start a Keyed ends rest off len s ∙ omega arith in
      rw (yes, j, append_assoc) (sym (take_at (take b ends) (message e ++ h.padding (length (take b ends ++ message e))) b lf))
  first_laid packet chain inner start a Plain ends rest off len r s le lt = absurd (omega (arith, rounds_is b std.size len, s.1))
  first_laid packet chain inner start a States ends rest off len r s le lt = absurd (omega (arith, rounds_is b std.size len, s.1))
