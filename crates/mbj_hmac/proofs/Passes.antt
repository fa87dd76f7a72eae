-- Entries that go on by blocks, of which the outer hash's first is at most the first.
use Rattle.std.proofs.Common.{◌≡◌, ℕ, zero, suc, ◌+◌, ◌-◌, ◌≤◌, ◌<◌, List, eqb, ◌&&◌, Bool, true, false, ◌⊎◌, inl, inr, refl, sym, ap, ◌∙◌, arith, add-one}
use Rattle.std.specs.Prelude.{nat_lt, if◌then◌else◌}
use Rattle.std.proofs.lemmas.Bool.{cases_lt, lt-ltb, le-ltb, eqb-true}
use Rattle.mbj_lane.specs.Rounds.{after}
use Rattle.mbj_lane.specs.Laws.{rest-after}
use Rattle.mbj_lane.proofs.Advanced.{after-one_more}
use Rattle.mbj_hmac.specs.declared.form.Form.{Form}
use Rattle.mbj_hmac.specs.Forms.{outer_rounds_of}
use Rattle.mbj_hmac.specs.Rounds.{Hashing, HmacState, block_before, compressed_once, is_turn, outer_rounds, turned, round, rest_of}
use Rattle.mbj_hmac.specs.Inside.InLanes.{reach_at, reach_of}
use Rattle.mbj_hmac.specs.Laws.Falls.{falls}
use Rattle.mbj_hmac.specs.Laws.Tests.{not_both}

module _ (h : Hashing) where
  -- blocks change the hash value and the rest alone
  pub after_moved : (d : ℕ) (e : HmacState) → after (compressed_once h) d e ≡ record e { chain = (after (compressed_once h) d e).chain; rest = e.rest - d }
  after_moved zero e = let z : e.rest - 0 ≡ e.rest = omega arith in ap (λ n. record e { rest = n }) (sym z)
  after_moved (suc d) e =
      let sum : e.rest - 1 - d ≡ e.rest - suc d = omega arith in
      let c : List ℕ = (after (compressed_once h) d (compressed_once h e)).chain in
      after_moved d (compressed_once h e) ∙ ap (λ n. record e { chain = c; rest = n }) sum

  -- one block more
  pub chain_next : (d : ℕ) (e : HmacState) → (after (compressed_once h) (d + 1) e).chain ≡ h.compress (after (compressed_once h) d e).chain (block_before h e (e.rest - d))
  chain_next d e =
      ap (λ (x : HmacState). x.chain) (sym (after-one_more (compressed_once h) d e))
      ∙ ap (λ x. h.compress (after (compressed_once h) d e).chain (block_before h x x.rest)) (after_moved d e)

-- how far an entry goes, by its rest and the rounds of its outer hash
module _ (o n : ℕ) where
  reach_is : ((o < n) × (reach_at n o ≡ n - o)) ⊎ ((n ≤ o) × (reach_at n o ≡ n))
  reach_is = elim (cases_lt o n) [ inl lt ↦ inl (lt, rw (lt-ltb o n lt) refl) | inr le ↦ inr (le, rw (le-ltb o n le) refl) ]

  -- within its reach, and behind its first round, an entry doesn't come to the outer hash's first round
  reach_before : (k : ℕ) → suc (suc k) ≤ reach_at n o → n - suc k ≡ o → ⊥
  reach_before k le e = elim reach_is [ inl p ↦ omega arith | inr p ↦ omega arith ]

-- what holds with another holds
second : (x y : Bool) → (x && y) ≡ true → y ≡ true
second true y q = q
second false y q = absurd (not_both q)

module _ (h : Hashing) where
  -- an entry where the outer hash's first block isn't next isn't turned
  unturned : (e : HmacState) → (e.rest ≡ outer_rounds e → ⊥) → turned h e ≡ e
  unturned e apart = go (is_turn e) refl
    where
      go : (b : Bool) → is_turn e ≡ b → turned h e ≡ e
      go true q = absurd (apart (eqb-true e.rest (outer_rounds e) (second (nat_lt 0 (outer_rounds e)) (eqb e.rest (outer_rounds e)) q)))
      go false q = rw q refl

  -- what is turned is an HMAC or a digest as before
  pub turned_form : (e : HmacState) → (turned h e).form ≡ e.form
  turned_form e = go (is_turn e)
    where
      go : (b : Bool) → (if b then record e { chain = e.start; inner = e.chain } else e).form ≡ e.form
      go true = refl
      go false = refl

  -- and so is what is advanced
  form_after : (k : ℕ) (e : HmacState) → (after (round h) k e).form ≡ e.form
  form_after zero e = refl
  form_after (suc k) e = form_after k (round h e) ∙ turned_form e

  -- rounds are blocks, if the outer hash's first is not among them but at first
  pub rounds_are_blocks : (k : ℕ) (e : HmacState) → suc k ≤ reach_of e → after (round h) (suc k) e ≡ after (compressed_once h) (suc k) (turned h e)
  rounds_are_blocks zero e le = refl
  rounds_are_blocks (suc k) e le =
      let x : HmacState = after (round h) (suc k) e in
      let xr : x.rest ≡ e.rest - suc k = rest-after (round h) rest_of (falls h) (suc k) e in
      let xo : outer_rounds x ≡ outer_rounds e = ap (λ (f : Form). outer_rounds_of f) (form_after (suc k) e) in
      let stays : turned h x ≡ x = unturned x (λ q. reach_before (outer_rounds e) e.rest k le (sym xr ∙ q ∙ xo)) in
      ap (λ n. after (round h) n e) (sym (add-one (suc k))) ∙ sym (after-one_more (round h) (suc k) e)
      ∙ ap (compressed_once h) (stays ∙ rounds_are_blocks k e (omega arith))
      ∙ after-one_more (compressed_once h) (suc k) (turned h e) ∙ ap (λ n. after (compressed_once h) n (turned h e)) (add-one (suc k))
