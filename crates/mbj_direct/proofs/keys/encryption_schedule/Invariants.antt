-- The round keys before the next one stand, and zeros behind them.
use Rattle.std.proofs.Common.{◌≡◌, ◌-◌, ◌*◌, ◌++◌, take, replicate}
use Rattle.mbj_direct.proofs.keys.encryption_schedule.Given as goal

abbrev pub invariant-rounds : goal.invariant-rounds
invariant-rounds l = l.bytes ≡ take (16 * l.r) l.key ++ replicate (240 - 16 * l.r) 0
