-- The ends of a new entry, as they are written piece by piece.
use Rattle.std.proofs.Common.{◌≡◌, ℕ, ◌+◌, ◌-◌, ◌*◌, ◌^◌, ◌≤◌, ◌<◌, ◌⊎◌, List, ◌++◌, length, take, drop, refl, sym, ap, ap₂, ◌∙◌, arith, length-drop, append_assoc}
use Rattle.std.proofs.lemmas.List.{length-take-le, length-map, drop-take}
use Rattle.std.proofs.Math.Seq.{drop-append_seam}
use Rattle.std.specs.Prelude.{bit_xor}
use Rattle.mbj_types.specs.Hmac.{padded_key, ipad, opad}
use Rattle.mbj_hmac.specs.Rounds.{Hashing}
use Rattle.mbj_hmac.specs.Inside.Layout.{IsStandard, whole_blocks, tail_blocks, message_end, first_ends}
use Rattle.mbj_hmac.proofs.Numbers.{size_range, tail_range, times_le, split, fill_is}
use Rattle.mbj_hmac.proofs.Laid.{length-padding}

module _ (h : Hashing) (std : IsStandard h) where
  abbrev b : ℕ
  b = h.block_bytes

  -- what is written behind the first block
  pub behind_first : (t : ℕ) (xs old x : List ℕ) → length old ≡ 4 * b → take (b * (t + 1)) xs ≡ take b old ++ x → take (b * t) (drop b xs) ≡ x
  behind_first t xs old x whole written =
      let i : b * (t + 1) ≡ b + b * t = omega arith in
      let l : length (take b old) ≡ b = length-take-le b old (omega (arith, (size_range b std.size).1)) in
      sym (drop-take b (b * t) xs) ∙ ap (λ k. drop b (take k xs)) (sym i) ∙ ap (drop b) written
      ∙ ap (λ k. drop k (take b old ++ x)) (sym l) ∙ drop-append_seam (take b old) x

  module _ (len : ℕ) where
    abbrev t : ℕ
    t = tail_blocks b len

    -- all of it fits
    pub ends_fit : b * (t + 2) ≤ 4 * b
    ends_fit = omega (arith, times_le b std.size (t + 2) 4 (omega (arith, (tail_range b std.size len).1)))

    pub end_fits : b * (t + 1) ≤ 4 * b
    end_fits = omega (arith, times_le b std.size (t + 1) 4 (omega (arith, (tail_range b std.size len).1)))

    -- the end of a message
    module _ (packet : List ℕ) (off : ℕ) where
      abbrev whole : ℕ
      whole = b * whole_blocks b len

      abbrev pub text_end : List ℕ
      text_end = take (len - whole) (drop (off + whole) packet)

      pub end_is : (n : ℕ) → n ≡ whole → n ≤ len → take (off + len - (off + n)) (drop (off + n) packet) ≡ text_end
      end_is n e le =
          let left : off + len - (off + n) ≡ len - whole = omega (arith, e) in
          ap₂ (λ k m. take k (drop (off + m) packet)) left e

      length-end : off + len ≤ length packet → length text_end ≡ len - whole
      length-end range = length-take-le (len - whole) (drop (off + whole) packet) (omega (arith, length-drop (off + whole) packet, split b std.size len))

      -- it fills the blocks behind the whole ones
      pub length-message_end : (p : ℕ) → (p ≡ 0) ⊎ (p ≡ b) → off + len ≤ length packet → len < 2 ^ 32
          → length text_end + length (h.padding (p + len)) ≡ b * t
      length-message_end p before range small =
          omega (arith, length-end range, length-padding h std p len before small, fill_is b std.size len, split b std.size len)

      -- the place behind it
      pub behind_end : (p at next : ℕ) (x : List ℕ) → (p ≡ 0) ⊎ (p ≡ b) → off + len ≤ length packet → len < 2 ^ 32 → at ≡ b → next ≡ at + length x → x ≡ text_end
          → next + length (h.padding (p + len)) ≡ b * (t + 1)
      behind_end p at next x before range small e e' is = omega (arith, e, e', ap length is, length-message_end p before range small)

      -- written behind what stands before it
      pub joined : (old x pad : List ℕ) (blk : ℕ) → blk ≡ b → x ≡ text_end → (take blk old ++ x) ++ pad ≡ take b old ++ (text_end ++ pad)
      joined old x pad blk eb ex = append_assoc (take blk old) x pad ∙ ap₂ (λ n y. take n old ++ (y ++ pad)) eb ex

  -- the key with a pad
  module _ (key : List ℕ) where
    abbrev pub pad_block : ℕ → List ℕ
    pad_block pad = take b (padded_key pad key)

    pub pad_is : (pad n : ℕ) (x : List ℕ) → n ≡ b → x ≡ padded_key pad key → take n x ≡ pad_block pad
    pad_is pad n x en ex = ap₂ (λ k l. take k l) en ex

    pub length-pad : (pad : ℕ) → length key ≡ 128 → length (pad_block pad) ≡ b
    length-pad pad l = length-take-le b (padded_key pad key) (omega (arith, length-map key (λ x. bit_xor x pad), (size_range b std.size).1))

    pub pad_fills : (pad : ℕ) (x : List ℕ) → length key ≡ 128 → x ≡ pad_block pad → length x ≡ b
    pad_fills pad x l is = ap length is ∙ length-pad pad l

    -- the pieces
    pub ends_made : (packet : List ℕ) (off len : ℕ) (blk : ℕ) (x y : List ℕ) → blk ≡ b → x ≡ pad_block ipad → y ≡ pad_block opad
        → (x ++ message_end h blk packet off len) ++ y ≡ first_ends h (pad_block ipad) (pad_block opad) packet off len
    ends_made packet off len blk x y eb ex ey = rw (eb, ex, ey) refl
