-- LaneQueues by places with the numbers of their jobs.
use Rattle.std.proofs.Common.{◌≡◌, ℕ, min, zero, suc, List, [], ◌∷◌, length, map, Bool, true, false, cond, eqb, Option, Some, None, refl, ap, arith}
use Rattle.std.specs.Prelude.{All}
use Rattle.std.specs.Option.{option_map}
use Rattle.mbj_lane.specs.Rounds.{least, least_from, taken}
use Rattle.mbj_manager.specs.Inside.PlacedQueue.{HasRest, PlacedEntry, advanced_entry, numbered, pair_rest, rounds_in}

module _ (f : ℕ → ℕ) where
  pub numbered-length : (ws : List PlacedEntry) → length (numbered f ws) ≡ length ws
  numbered-length [] = refl
  numbered-length (w ∷ ws) = ap suc (numbered-length ws)

  pub numbered-advanced : (m : ℕ) (ws : List PlacedEntry) → numbered f (map (advanced_entry m) ws) ≡ map (advanced_entry m) (numbered f ws)
  numbered-advanced m [] = refl
  numbered-advanced m (w ∷ ws) = ap (λ (r : List PlacedEntry). advanced_entry m (f w.0, w.1) ∷ r) (numbered-advanced m ws)

  least_from-numbered : (n : ℕ) (ws : List PlacedEntry) → least_from (pair_rest rounds_in) n (numbered f ws) ≡ least_from (pair_rest rounds_in) n ws
  least_from-numbered n [] = refl
  least_from-numbered n (w ∷ ws) = least_from-numbered (min n w.1.rounds) ws

  pub numbered-least : (ws : List PlacedEntry) → least (pair_rest rounds_in) (numbered f ws) ≡ least (pair_rest rounds_in) ws
  numbered-least [] = refl
  numbered-least (w ∷ ws) = least_from-numbered w.1.rounds ws

  pub unnumbered-rests : (ws : List PlacedEntry) → All HasRest (numbered f ws) → All HasRest ws
  unnumbered-rests [] a k d l = absurd (omega arith)
  unnumbered-rests (w ∷ ws) a zero d l = a 0 w (omega arith)
  unnumbered-rests (w ∷ ws) a (suc k) d l = unnumbered-rests ws (λ i x lt. a (suc i) x (omega arith)) k d (omega arith)

  abbrev pub Split : Type 0
  Split = PlacedEntry × List PlacedEntry

  abbrev pub numbered_split : Split → Split
  numbered_split t = ((f t.0.0, t.0.1), numbered f t.1)

  taken-step : (b : Bool) (w : PlacedEntry) (ws : List PlacedEntry) (x y : Option Split) → y ≡ option_map numbered_split x
      → cond b (Some ((f w.0, w.1), numbered f ws)) (option_map (λ t. (t.0, (f w.0, w.1) ∷ t.1)) y)
      ≡ option_map numbered_split (cond b (Some (w, ws)) (option_map (λ t. (t.0, w ∷ t.1)) x))
  taken-step true w ws x y h = refl
  taken-step false w ws None y h = rw h refl
  taken-step false w ws (Some t) y h = rw h refl

  pub numbered-taken : (ws : List PlacedEntry) → taken (pair_rest rounds_in) (numbered f ws) ≡ option_map numbered_split (taken (pair_rest rounds_in) ws)
  numbered-taken [] = refl
  numbered-taken (w ∷ ws) =
      taken-step (eqb w.1.rounds 0) w ws (taken (pair_rest rounds_in) ws) (taken (pair_rest rounds_in) (numbered f ws)) (numbered-taken ws)
