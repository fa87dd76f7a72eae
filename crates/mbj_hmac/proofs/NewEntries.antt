-- A new entry.
use Rattle.std.proofs.Common.{◌≡◌, ℕ, ◌+◌, ◌-◌, ◌*◌, ◌^◌, ◌≤◌, ◌<◌, inr, List, [], ◌++◌, length, take, drop, refl, sym, ap, ◌∙◌, arith, length-append, length-drop, take_all}
use Rattle.std.proofs.lemmas.List.{length-take-le, take_at, take-take, drop-append-le, drop-take, drop-drop, append_assoc}
use Rattle.std.proofs.Math.Seq.{drop-append-add, drop-append_seam}
use Rattle.std.specs.Prelude.{replicate, IsTrue}
use Rattle.mbj_types.specs.declared.class.HashName.{HashName}
use Rattle.mbj_types.specs.Rounds.{hash_rounds, hmac_rounds, states_rounds}
use Rattle.mbj_hmac.specs.declared.form.Form.{Form}
use Rattle.mbj_hmac.specs.declared.form.Form.TheVariants.{Plain, Keyed, States}
use Rattle.mbj_hmac.specs.Forms.{counted}
use Rattle.mbj_hmac.specs.Rounds.{Hashing, padded, padded_in, started, started_plain, started_states}
use Rattle.mbj_hmac.specs.Inside.Layout.{IsStandard, whole_blocks, tail_blocks, message_end, first_ends, seen, IsKept}
use Rattle.mbj_hmac.proofs.Numbers.{times_le, split}
use Rattle.mbj_hmac.proofs.Laid.{bytes_behind, counted_is, kept}
use Rattle.mbj_hmac.proofs.Texts.{block_right, block_take}
use Rattle.mbj_hmac.proofs.FirstEnds.{text_end, length-message_end}

module _ (h : Hashing) (std : IsStandard h) (packet : List ℕ) (off len : ℕ) where
  abbrev b : ℕ
  b = h.block_bytes

  abbrev t : ℕ
  t = tail_blocks b len

  abbrev w : ℕ
  w = whole_blocks b len

  abbrev msg : List ℕ
  msg = take len (drop off packet)

  -- the end of the text that the first hash reads, where `front` stands before the message
  text_tail : (form : Form) (before : ℕ) (front : List ℕ) → bytes_behind form b + length front ≡ before → off + len ≤ length packet
      → drop (length front + b * w) (padded_in h form (front ++ msg)) ≡ message_end h before packet off len
  text_tail form before front e range =
      let lm : length msg ≡ len = length-take-le len (drop off packet) (omega (arith, length-drop off packet)) in
      let all : counted form b (length (front ++ msg)) ≡ before + len = counted_is form b (length (front ++ msg)) ∙ omega (arith, length-append front msg) in
      let inside : b * w ≤ len = omega (arith, split b std.size len) in
      let sum : b * w + (len - b * w) ≡ len = omega arith in
      let p : List ℕ = h.padding (before + len) in
      let last : drop (b * w) msg ≡ text_end h std len packet off =
      ap (λ k. drop (b * w) (take k (drop off packet))) (sym sum) ∙ drop-take (b * w) (len - b * w) (drop off packet)
      ∙ ap (take (len - b * w)) (drop-drop (b * w) off packet) in
      ap (λ k. drop (length front + b * w) ((front ++ msg) ++ h.padding k)) all
      ∙ ap (drop (length front + b * w)) (append_assoc front msg p)
      ∙ drop-append-add front (msg ++ p) (b * w)
      ∙ drop-append-le (b * w) msg p (omega arith)
      ∙ ap (λ x. x ++ p) last

  -- an HMAC
  module _ (a : HashName) (ends front back : List ℕ) where
    -- the message's end, and the padding behind it
    abbrev middle : List ℕ
    middle = message_end h b packet off len

    abbrev pub written : List ℕ
    written = first_ends h front back packet off len

    pub record Facts : Type 0 where
      pub front_is : length front ≡ b
      pub back_is : length back ≡ b
      pub range : off + len ≤ length packet
      pub small : len < 2 ^ 32
      pub whole : length ends ≡ 4 * b
      pub served : IsTrue (h.serves a)
      pub ends_are : take (b * (t + 2)) ends ≡ written

    module _ (f : Facts) where
      regroup : written ≡ front ++ (middle ++ back)
      regroup = append_assoc front middle back

      length-middle : length middle ≡ b * t
      length-middle =
          omega (arith, length-append (text_end h std len packet off) (h.padding (b + len)), length-message_end h std len packet off b (inr refl) f.range f.small)

      front_laid : take b ends ≡ front
      front_laid =
          sym (take-take b (b * (t + 2)) ends (omega (arith, times_le b std.size 1 (t + 2) (omega arith)))) ∙ ap (take b) (f.ends_are ∙ regroup)
          ∙ take_at front (middle ++ back) b f.front_is

      behind_laid : take (b * (t + 1)) (drop b ends) ≡ middle ++ back
      behind_laid =
          let i : b * (t + 2) ≡ b + b * (t + 1) = omega arith in
          sym (drop-take b (b * (t + 1)) ends) ∙ ap (λ k. drop b (take k ends)) (sym i) ∙ ap (drop b) (f.ends_are ∙ regroup)
          ∙ ap (λ k. drop k (front ++ (middle ++ back))) (sym f.front_is)
          ∙ drop-append_seam front (middle ++ back)

      middle_laid : take (b * t) (drop b ends) ≡ middle
      middle_laid =
          sym (take-take (b * t) (b * (t + 1)) (drop b ends) (omega arith)) ∙ ap (take (b * t)) behind_laid
          ∙ take_at middle back (b * t) length-middle

      back_laid : take b (drop (b * (t + 1)) ends) ≡ back
      back_laid =
          let i : b * (t + 1) ≡ b + b * t = omega arith in
          let n : b * (t + 1) ≡ length (middle ++ back) = omega (arith, length-append middle back, length-middle, f.back_is) in
          let one : b * t + b ≡ b * (t + 1) = omega arith in
          ap (λ k. take b (drop k ends)) i ∙ ap (take b) (sym (drop-drop (b * t) b ends))
          ∙ sym (block_take b (b * t) (b * (t + 1)) (drop b ends) (omega (arith, one)))
          ∙ ap (λ x. take b (drop (b * t) x)) behind_laid
          ∙ block_right b (b * t) 0 middle back (omega (arith, length-middle))
          ∙ take_all b back (omega (arith, f.back_is))

      pub new_sound : (chain zeros start : List ℕ) (rest : ℕ) → rest ≡ hmac_rounds b len → IsKept h ends (seen h packet rest chain zeros start a Keyed ends off len)
      new_sound chain zeros start rest r =
          let laid : take (b * t) (drop b ends) ≡ drop (length front + b * w) (padded h (front ++ msg)) =
          middle_laid ∙ ap (λ n. message_end h n packet off len) (sym f.front_is) ∙ sym (text_tail Keyed (length front) front (omega arith) f.range) in
          kept h ends (seen h packet rest chain zeros start a Keyed ends off len)
          (f.range, omega (arith, r), f.small, rw front_laid laid, f.whole, f.served)

      pub new_seen : (zeros : List ℕ) (rest : ℕ) → rest ≡ hmac_rounds b len → zeros ≡ replicate h.words 0
          → seen h packet rest (h.initial a) zeros (h.initial a) a Keyed ends off len ≡ started h a front back packet off len
      new_seen zeros rest r z = rw (front_laid, back_laid, r, z) refl

  -- a digest
  pub plain_sound : (a : HashName) (ends chain zeros start : List ℕ) (rest : ℕ) → off + len ≤ length packet → len < 2 ^ 32 → length ends ≡ 4 * b → IsTrue (h.serves a)
      → take (b * t) (drop b ends) ≡ message_end h 0 packet off len → rest ≡ hash_rounds b len
      → IsKept h ends (seen h packet rest chain zeros start a Plain ends off len)
  plain_sound a ends chain zeros start rest range small whole served ends_are r =
      kept h ends (seen h packet rest chain zeros start a Plain ends off len)
      (range, omega (arith, r), small, ends_are ∙ sym (text_tail Plain 0 [] refl range), whole, served)

  pub plain_seen : (a : HashName) (ends zeros : List ℕ) (rest : ℕ) → rest ≡ hash_rounds b len → zeros ≡ replicate h.words 0
      → seen h packet rest (h.initial a) zeros zeros a Plain ends off len ≡ started_plain h a packet off len
  plain_seen a ends zeros rest r z = rw (r, z) refl

  -- an HMAC from states
  pub states_sound : (a : HashName) (ends chain zeros start : List ℕ) (rest : ℕ) → off + len ≤ length packet → len < 2 ^ 32 → length ends ≡ 4 * b → IsTrue (h.serves a)
      → take (b * t) (drop b ends) ≡ message_end h b packet off len → rest ≡ states_rounds b len
      → IsKept h ends (seen h packet rest chain zeros start a States ends off len)
  states_sound a ends chain zeros start rest range small whole served ends_are r =
      kept h ends (seen h packet rest chain zeros start a States ends off len)
      (range, omega (arith, r), small, ends_are ∙ sym (text_tail States b [] (omega arith) range), whole, served)

  pub states_seen : (a : HashName) (ends chain zeros start : List ℕ) (rest : ℕ) → rest ≡ states_rounds b len → zeros ≡ replicate h.words 0
      → seen h packet rest chain zeros start a States ends off len ≡ started_states h a chain start packet off len
  states_seen a ends chain zeros start rest r z = rw (r, z) refl
