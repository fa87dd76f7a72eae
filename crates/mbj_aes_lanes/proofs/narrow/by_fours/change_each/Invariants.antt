-- The blocks of the fours before k are changed, and the others are as they were.
use Rattle.std.proofs.Common.{◌≡◌, ℕ, ◌*◌, ◌<◌, ◌≤◌, [], get_or}
use Rattle.mbj_aes_lanes.proofs.narrow.by_fours.change_each.Given as goal

abbrev pub invariant-fours : goal.invariant-fours
invariant-fours g l = record {
  changed : (i : ℕ) → i < 4 * l.k → get_or l.blocks i [] ≡ g.D.Direction.change l.key (get_or l.fn.blocks i []);
  others : (i : ℕ) → 4 * l.k ≤ i → get_or l.blocks i [] ≡ get_or l.fn.blocks i [];
}
