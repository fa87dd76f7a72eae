-- The block of an inner digest: it is made by the lane's inner hash value, and the other blocks don't depend on that.
use Rattle.std.proofs.Common.{◌≡◌, ℕ, ◌+◌, ◌-◌, ◌*◌, ◌≤◌, ◌<◌, inl, inr, List, [], ◌∷◌, ◌++◌, length, take, drop, refl, sym, ap, ◌∙◌, arith, length-append, take_all}
use Rattle.std.proofs.lemmas.Bool.{cases_lt, le-ltb, lt-ltb}
use Rattle.std.proofs.lemmas.List.{append_assoc, take_at}
use Rattle.std.proofs.Math.Seq.{drop-append_seam}
use Rattle.std.specs.Prelude.{nat_lt, if◌then◌else◌}
use Rattle.mbj_hmac.specs.declared.form.Form.{Form}
use Rattle.mbj_hmac.specs.declared.form.Form.TheVariants.{Plain, Keyed, States}
use Rattle.mbj_hmac.specs.Forms.{made_rounds_of, outer_rounds_of}
use Rattle.mbj_hmac.specs.Rounds.{Hashing, HmacState, block_at, block_before, outer_rounds, padded_in}
use Rattle.mbj_hmac.specs.Inside.InLanes.{HasDigest, IsTied, block_in, idle, never, outer_left, with_chains}
use Rattle.mbj_hmac.specs.Inside.Layout.{IsStandard, digest_block}
use Rattle.mbj_hmac.proofs.InLanes.{tied_rest, tied_turn}
use Rattle.mbj_hmac.proofs.Writes.{digest_full}

-- the turn of a form
abbrev turn_in : Form → ℕ
turn_in f = if nat_lt 0 (outer_rounds_of f) then outer_rounds_of f else never

-- a block that isn't made is read
unmade : (f : Form) (x t k d : ℕ) → t ≡ turn_in f → k ≡ outer_left x t → (k ≡ d + 1 → ⊥) → d < x → made_rounds_of f < x - d
unmade Plain x t k d et ek apart lt = omega arith
unmade Keyed x t k d et ek apart lt =
    let all : k ≡ x = ek ∙ ap (outer_left x) et in
    elim (cases_lt (d + 1) k) [ inl more ↦ omega arith | inr le ↦ absurd (apart (omega arith)) ]
unmade States x t k d et ek apart lt =
    let all : k ≡ x = ek ∙ ap (outer_left x) et in
    elim (cases_lt (d + 1) k) [ inl more ↦ omega arith | inr le ↦ absurd (apart (omega arith)) ]

-- one that is made is the last of an HMAC
made_last : (f : Form) (x t k d : ℕ) → t ≡ turn_in f → k ≡ outer_left x t → k ≡ d + 1 → (0 < outer_rounds_of f) × (x - d ≡ 1)
made_last Plain x t k d et ek same = let none : k ≡ 0 = ek ∙ ap (outer_left x) et in absurd (omega arith)
made_last Keyed x t k d et ek same = let all : k ≡ x = ek ∙ ap (outer_left x) et in (omega arith, omega arith)
made_last States x t k d et ek same = let all : k ≡ x = ek ∙ ap (outer_left x) et in (omega arith, omega arith)

module _ (h : Hashing) (std : IsStandard h) where
  abbrev b : ℕ
  b = h.block_bytes

  none : (xs : List ℕ) → drop (0 * b) xs ≡ xs
  none xs = let z : 0 * b ≡ 0 = omega arith in rw z refl

  one : (xs : List ℕ) → drop (1 * b) xs ≡ drop b xs
  one xs = let o : 1 * b ≡ b = omega arith in rw o refl

  -- the outer text's last block is the inner digest and its padding
  last_block : (f : Form) (back d : List ℕ) → 0 < outer_rounds_of f → length back ≡ b * (outer_rounds_of f - 1)
      → length d + length (h.padding (b + length d)) ≡ b
      → block_at h (padded_in h f (back ++ d)) (outer_rounds_of f - 1) ≡ d ++ h.padding (b + length d)
  last_block Plain back d some size full = absurd (omega arith)
  last_block Keyed back d some size full =
      let size' : length back ≡ b = omega arith in
      let n : length (back ++ d) ≡ b + length d = length-append back d ∙ ap (λ k. k + length d) size' in
      let pad : List ℕ = h.padding (length (back ++ d)) in
      ap (take b) (one ((back ++ d) ++ pad) ∙ ap (drop b) (append_assoc back d pad) ∙ ap (λ k. drop k (back ++ (d ++ pad))) (sym size') ∙ drop-append_seam back (d ++ pad))
      ∙ ap (λ k. take b (d ++ h.padding k)) n
      ∙ take_all b (d ++ h.padding (b + length d)) (omega (arith, length-append d (h.padding (b + length d))))
  last_block States [] d some size full =
      ap (take b) (none (d ++ h.padding (b + length d)))
      ∙ take_all b (d ++ h.padding (b + length d)) (omega (arith, length-append d (h.padding (b + length d))))
  last_block States (x ∷ back) d some size full = absurd (omega arith)

  -- the outer pad is the block before it
  pad_block : (f : Form) (r : ℕ) (back d : List ℕ) → made_rounds_of f < r → r ≤ outer_rounds_of f → length back ≡ b * (outer_rounds_of f - 1)
      → block_at h (padded_in h f (back ++ d)) (outer_rounds_of f - r) ≡ back
  pad_block Plain r back d some le size = absurd (omega arith)
  pad_block States r back d some le size = absurd (omega arith)
  pad_block Keyed r back d some le size =
      let size' : length back ≡ b = omega arith in
      let pad : List ℕ = h.padding (length (back ++ d)) in
      let first : (2 - r) * b ≡ 0 = let z : 2 - r ≡ 0 = omega arith in rw z (omega arith) in
      ap (λ k. take b (drop k ((back ++ d) ++ pad))) first ∙ ap (take b) (append_assoc back d pad) ∙ take_at back (d ++ pad) b size'

  module _ (c n : List ℕ) (count : ℕ) (e : HmacState) (has : HasDigest h count e) where
    digest_is : 0 < outer_rounds e → block_before h (with_chains c n e) 1 ≡ digest_block h e.hash n
    digest_is some =
        rw (le-ltb (outer_rounds e) 1 some)
        (last_block e.form e.back (h.digest e.hash n) some has.back (digest_full h std e.hash n))

    same_block : (r : ℕ) → made_rounds_of e.form < r → block_before h e r ≡ block_before h (with_chains c n e) r
    same_block r some = elim (cases_lt (outer_rounds e) r) [
      | inl lt ↦ rw (lt-ltb (outer_rounds e) r lt) refl
      | inr le ↦
          rw (le-ltb (outer_rounds e) r le)
          (pad_block e.form r e.back (h.digest e.hash e.inner) some le has.back ∙ sym (pad_block e.form r e.back (h.digest e.hash n) some le has.back))
    ]

    -- a busy lane with rest r and turn t, behind d others, of which k is what its HMAC has left
    module _ (r t d k : ℕ) (advanced : List ℕ) (tied : IsTied r t e) (busy : r < idle) (left : d < r) (is : k ≡ outer_left r t) where
      rest : r ≡ e.rest
      rest = tied_rest r t e tied busy

      is' : k ≡ outer_left e.rest t
      is' = is ∙ ap (λ x. outer_left x t) rest

      -- its block is read, if this isn't the digest's
      pub read_advanced : (k ≡ d + 1 → ⊥) → advanced ≡ h.compress c (block_in h e d) → advanced ≡ h.compress c (block_before h (with_chains c n e) (e.rest - d))
      read_advanced apart next =
          let some : made_rounds_of e.form < e.rest - d = unmade e.form e.rest t k d (tied_turn r t e tied busy) is' apart (omega (arith, rest)) in
          let read : block_in h e d ≡ block_before h e (e.rest - d) = rw (lt-ltb (made_rounds_of e.form) (e.rest - d) some) refl in
          next ∙ ap (h.compress c) (read ∙ same_block (e.rest - d) some)

      -- and else made
      pub made_advanced : k ≡ d + 1 → advanced ≡ h.compress c (digest_block h e.hash n) → advanced ≡ h.compress c (block_before h (with_chains c n e) (e.rest - d))
      made_advanced same next =
          let last = made_last e.form e.rest t k d (tied_turn r t e tied busy) is' same in
          rw last.1 (next ∙ ap (h.compress c) (sym (digest_is last.0)))
