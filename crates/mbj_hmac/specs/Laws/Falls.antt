-- A law of a kernel of HMAC: a round lowers the rest by one.
use Rattle.std.proofs.Common.{◌≡◌, ◌-◌, Bool, true, false, refl, ap}
use Rattle.std.specs.Prelude.{if◌then◌else◌}
use Rattle.mbj_hmac.specs.Rounds.{Hashing, HmacState, is_turn, turned, round}

module _ (h : Hashing) where
  pub turned_rest : (e : HmacState) → (turned h e).rest ≡ e.rest
  turned_rest e = go (is_turn e)
    where
      go : (b : Bool) → (if b then record e { chain = e.start; inner = e.chain } else e).rest ≡ e.rest
      go true = refl
      go false = refl

  pub falls : (e : HmacState) → (round h e).rest ≡ e.rest - 1
  falls e = ap (λ n. n - 1) (turned_rest e)
