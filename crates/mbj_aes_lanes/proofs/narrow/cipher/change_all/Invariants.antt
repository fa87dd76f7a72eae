-- In each block the rounds before k are done.
use Rattle.std.proofs.Common.{ℕ, ◌<◌, get_or}
use Rattle.mbj_aes.specs.BlockWords.{block_byte, block_at}
use Rattle.mbj_aes_lanes.specs.Inside.Held.{IsHeld}
use Rattle.mbj_aes_lanes.proofs.narrow.cipher.change_all.Given as goal

abbrev pub invariant-rounds : goal.invariant-rounds
invariant-rounds g l =
    let lane = g.V.Lane8.lane in
    (i b : ℕ) (d : g.row.V.Denot) → i < g.row.N → b < g.V.BlockWord.BLOCKS
    → IsHeld g.D.Direction.change g.D.Direction.is_after (g.K.Schedules.schedule_of l.keys i b) (block_at lane (get_or l.fn.s i d) b) l.n l.k (block_byte lane (get_or l.s i d) b)
