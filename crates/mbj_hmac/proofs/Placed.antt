-- Each block of an entry stands where the entry's places say, but for one that is made.
use Rattle.std.proofs.Common.{◌≡◌, ℕ, ◌+◌, ◌-◌, ◌*◌, ◌≤◌, ◌<◌, inl, inr, List, length, take, drop, ap, ◌∙◌, arith}
use Rattle.std.proofs.lemmas.Bool.{lt-ltb, le-ltb, cases_lt}
use Rattle.std.proofs.lemmas.List.{length-replicate, drop-replicate, take-replicate}
use Rattle.std.specs.Prelude.{nat_lt, replicate, if◌then◌else◌}
use Rattle.mbj_types.specs.declared.class.HashName.{HashName}
use Rattle.mbj_hmac.specs.declared.form.Form.{Form}
use Rattle.mbj_hmac.specs.declared.form.Form.TheVariants.{Plain, Keyed, States}
use Rattle.mbj_hmac.specs.declared.places.Places.{Places}
use Rattle.mbj_hmac.specs.declared.places.TheConstants.{BLANK_BYTES}
use Rattle.mbj_hmac.specs.Forms.{made_rounds_of, outer_rounds_of}
use Rattle.mbj_hmac.specs.Rounds.{Hashing, HmacState}
use Rattle.mbj_hmac.specs.Inside.InLanes.{block_in}
use Rattle.mbj_hmac.specs.Inside.Layout.{IsKept, IsPlaced, IsStandard, IsSound, is_in_packet, place_at, seen, tail_blocks, whole_blocks}
use Rattle.mbj_hmac.proofs.Numbers.{size_range, split, tail_range, times_le}
use Rattle.mbj_hmac.proofs.Laid.{end_laid, first_laid, outer_few, packet_laid}

-- fewer rounds are made than an outer hash has
made_few : (form : Form) → made_rounds_of form ≤ outer_rounds_of form
made_few Plain = omega arith
made_few Keyed = omega arith
made_few States = omega arith

module _ (h : Hashing) (std : IsStandard h) (packet chain inner start : List ℕ) (a : HashName) (form : Form) (ends : List ℕ) (rest off len : ℕ) (p : Places)
    (k : IsKept h ends (seen h packet rest chain inner start a form ends off len)) (at : IsPlaced h.block_bytes form len p) (done : ℕ) where
  abbrev b : ℕ
  b = h.block_bytes

  abbrev e : HmacState
  e = seen h packet rest chain inner start a form ends off len

  abbrev r : ℕ
  r = rest - done

  -- the bytes in which the block stands, and its place there
  abbrev pub source : List ℕ
  source = if is_in_packet p r then packet else if nat_lt p.made r then ends else replicate BLANK_BYTES 0

  abbrev pub place : ℕ
  place = place_at b p r off

  pub few : p.behind ≤ 4
  few = omega (arith, at.behind, (tail_range b std.size len).1, outer_few form)

  made_below : p.made < p.behind
  made_below = omega (arith, at.made, at.behind, (tail_range b std.size len).0, made_few form)

  -- there is a block of zeros wherever one that is made would begin
  blank_room : (r : ℕ) → b + b * (p.behind - r) + b ≤ length {A = ℕ} (replicate BLANK_BYTES 0)
  blank_room r =
      omega (
        arith,
        few,
        length-replicate {A = ℕ} BLANK_BYTES 0,
        times_le b std.size (p.behind - r + 2) 6 (omega (arith, few)),
        (size_range b std.size).1,
      )

  pub has_room : place + b ≤ length source
  has_room = elim (cases_lt p.high r) [
    | inl over ↦
        let made : p.made < r = omega (arith, made_below, at.high) in
        rw (lt-ltb p.high r over, lt-ltb p.made r made) (omega (arith, k.3))
    | inr under ↦ elim (cases_lt p.behind r) [
      | inl above ↦
          let s : IsSound h ends e = k.0 (omega arith) in
          rw (le-ltb p.high r under, lt-ltb p.behind r above)
          (omega (arith, s.0, split b std.size len, times_le b std.size (p.high - r + 1) (whole_blocks b len) (omega (arith, at.high))))
      | inr below ↦
          let high : r ≤ p.high = omega (arith, at.high) in
          elim (cases_lt p.made r) [
            | inl read ↦
                rw (le-ltb p.high r high, le-ltb p.behind r below, lt-ltb p.made r read)
                (omega (arith, k.3, times_le b std.size (p.behind - r + 2) 4 (omega (arith, few, below_made read))))
            | inr made ↦
                rw (le-ltb p.high r high, le-ltb p.behind r below, le-ltb p.made r made) (omega (arith, blank_room r))
          ]
    ]
  ]
    where
      below_made : p.made < r → p.behind ≤ r + 2
      below_made read = by_form form at.made at.behind
        where
          by_form : (f : Form) → p.made ≡ made_rounds_of f → p.behind ≡ tail_blocks b len + outer_rounds_of f → p.behind ≤ r + 2
          by_form Plain m n = omega (arith, (tail_range b std.size len).1)
          by_form Keyed m n = omega (arith, (tail_range b std.size len).1)
          by_form States m n = omega (arith, (tail_range b std.size len).1)

  pub block_is : take b (drop place source) ≡ block_in h e done
  block_is = elim (cases_lt p.made r) [
    | inl read ↦
        let some : made_rounds_of form < r = omega (arith, at.made) in
        let s : IsSound h ends e = k.0 (omega arith) in
        rw (lt-ltb (made_rounds_of form) r some) (elim (cases_lt p.high r) [
          | inl over ↦
              rw (lt-ltb p.high r over, lt-ltb p.made r read)
              (first_laid h std packet chain inner start a form ends rest off len r s (omega arith) (omega (arith, at.behind, at.high)))
          | inr under ↦ elim (cases_lt p.behind r) [
            | inl above ↦
                rw (le-ltb p.high r under, lt-ltb p.behind r above)
                (packet_laid h std packet chain inner start a form ends rest off len r (p.high - r) (off + b * (p.high - r)) s (omega (arith, at.behind)) (omega (arith, at.behind, at.high)) (omega arith))
            | inr below ↦
                let high : r ≤ p.high = omega (arith, at.high) in
                rw (le-ltb p.high r high, le-ltb p.behind r below, lt-ltb p.made r read)
                (end_laid h std packet chain inner start a form ends rest off len r (p.behind - r) (b + b * (p.behind - r)) s some (omega (arith, at.behind)) (omega arith))
          ]
        ])
    | inr made ↦
        let none : r ≤ made_rounds_of form = omega (arith, at.made) in
        let below : r ≤ p.behind = omega (arith, made_below) in
        let high : r ≤ p.high = omega (arith, below, at.high) in
        rw (le-ltb (made_rounds_of form) r none, le-ltb p.high r high, le-ltb p.behind r below, le-ltb p.made r made)
        (ap (take b) (drop-replicate (b + b * (p.behind - r)) BLANK_BYTES 0)
        ∙ take-replicate b (BLANK_BYTES - (b + b * (p.behind - r))) 0 (omega (arith, blank_room r, length-replicate {A = ℕ} BLANK_BYTES 0)))
  ]
