-- What stands at a position of the order: a slot, with its place and its entry.
use Rattle.std.proofs.Common.{◌≡◌, ℕ, ◌<◌, List, length, get_or, Option, Some, ap, ◌∙◌, arith}
use Rattle.std.proofs.lemmas.List.{length-map}
use Rattle.mbj_lane.specs.Slots.{AreBusy, IsBusy, Placed, placed, slots_of}
use Rattle.mbj_lane.proofs.Listing.{busy-at, entry-at, length-same, map-at}

module _ {E : Type 0} (lanes : ℕ) (f : ℕ → Option E) (order : List (ℕ × ℕ)) (now : Placed E) where
  pub record IsStanding (k : ℕ) (s : ℕ × ℕ) : Type 0 where
    pub position : k < length now.entries
    pub inside : k < length (slots_of order)
    pub at : s.0 ≡ get_or (slots_of order) k s.0
    pub lane : s.0 < lanes
    pub there : IsBusy f s.0
    pub entry : (e : E) → f s.0 ≡ Some e → e ≡ get_or now.entries k e

  module _ (busy : AreBusy f lanes (slots_of order)) (view : placed f order ≡ now) where
    same : (placed f order).entries ≡ now.entries
    same = ap (λ (v : Placed E). v.entries) view

    pub length_order : length now.entries ≡ length order
    length_order = length-same lanes f (slots_of order) now.entries busy same ∙ length-map order (λ (s : ℕ × ℕ). s.0)

    pub standing : (k : ℕ) {s : ℕ × ℕ} → k < length order → s ≡ get_or order k s → IsStanding k s
    standing k {s} lt is =
        let inside : k < length (slots_of order) = omega (arith, length-map order (λ (s : ℕ × ℕ). s.0)) in
        let at = map-at (λ (s : ℕ × ℕ). s.0) order k s lt is in
        let there = busy-at lanes f (slots_of order) k s.0 busy inside at in
        record {
          position = omega (arith, length_order);
          inside = inside;
          at = at;
          lane = there.0;
          there = there.1;
          entry = λ e some. entry-at lanes f (slots_of order) k s.0 e now.entries busy same inside at some;
        }
