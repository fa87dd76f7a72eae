-- What follows for every kind of entry whose rounds lower its rest by one.
use Rattle.std.proofs.Common.{◌≡◌, ℕ, ◌+◌, ◌-◌, ◌≤◌, zero, suc, refl, arith}
use Rattle.mbj_lane.specs.Rounds.{after, end_of}

module _ {E : Type 0} (round : E → E) where
  -- n rounds behind m rounds are m + n rounds
  pub after-after : (m n : ℕ) (e : E) → after round n (after round m e) ≡ after round (m + n) e
  after-after zero n e = let z : 0 + n ≡ n = omega arith in rw z refl
  after-after (suc m) n e = let z : suc m + n ≡ suc (m + n) = omega arith in rw z (after-after m n (round e))

module _ {E : Type 0} (round : E → E) (rest : E → ℕ) (falls : (e : E) → rest (round e) ≡ rest e - 1) where
  -- m rounds lower the rest by m
  pub rest-after : (m : ℕ) (e : E) → rest (after round m e) ≡ rest e - m
  rest-after zero e = omega arith
  rest-after (suc m) e = omega (arith, rest-after m (round e), falls e)

  -- rounds that an entry has left don't change its end
  pub end-after : (m : ℕ) (e : E) → m ≤ rest e → end_of round rest (after round m e) ≡ end_of round rest e
  end-after m e h =
      let z : m + (rest e - m) ≡ rest e = omega arith in
      rw (rest-after m e, after-after round m (rest e - m) e, z) refl
