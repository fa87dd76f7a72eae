-- The registers below i are done.
use Rattle.std.proofs.Common.{◌≡◌, ℕ, ◌+◌, ◌*◌, ◌<◌, List, length}
use Rattle.mbj_aes.specs.BlockWords.{block_byte}
use Rattle.mbj_aes_lanes.specs.Inside.Held.{IsHeld}
use Rattle.mbj_aes_lanes.proofs.EachRegister.{AreDone}
use Rattle.mbj_aes_lanes.proofs.narrow.cipher.round_all.Given as goal

abbrev pub invariant-registers : goal.invariant-registers
invariant-registers g l =
    let lane = g.V.Lane8.lane in
    let held = IsHeld g.D.Direction.change g.D.Direction.is_after in
    AreDone (λ i old new. (b : ℕ) (block : List ℕ) → b < g.V.BlockWord.BLOCKS → length (g.K.Schedules.schedule_of l.keys i b) ≡ 16 * (l.n + 1)
    → held (g.K.Schedules.schedule_of l.keys i b) block l.n l.k (block_byte lane old b)
    → held (g.K.Schedules.schedule_of l.keys i b) block l.n (l.k + 1) (block_byte lane new b)) l.fn.s l.s l.i
