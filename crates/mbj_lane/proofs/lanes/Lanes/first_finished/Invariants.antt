use Rattle.std.proofs.Common.{ℕ, ◌<◌, ◌≤◌, get_or}
use Rattle.mbj_lane.proofs.lanes.Lanes.first_finished.Given as goal

abbrev pub invariant-positions : goal.invariant-positions
invariant-positions g l = (j : ℕ) (d : g.row.K-Entry.Denot) → j < l.k → 1 ≤ g.K.Kernel.rest_of (get_or l.fn.self.entries j d)
