use Rattle.std.proofs.Common.{◌≡◌, ℕ, ◌<◌, ◌≤◌, length}
use Rattle.mbj_hmac.specs.Inside.InLanes.{entry_in, seen_at}
use Rattle.mbj_hmac.proofs.lanes.HmacLanes.give_back.Given as goal

abbrev pub invariant-entries : goal.invariant-entries
invariant-entries g l = record {
  done : (j : ℕ) → j < length l.entries → j < l.i → entry_in l.entries j ≡ seen_at (g.H.LaneHash.lane l.self.states) (g.H.LaneHash.lane l.self.inner) l.initial.entries j;
  left : (j : ℕ) → j < length l.entries → l.i ≤ j → entry_in l.entries j ≡ entry_in l.initial.entries j;
}
