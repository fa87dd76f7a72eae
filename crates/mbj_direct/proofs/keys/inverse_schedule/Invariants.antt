-- The round keys before the next one stand, and zeros behind them.
use Rattle.std.proofs.Common.{◌≡◌, ◌-◌, ◌*◌, ◌++◌, length, replicate}
use Rattle.mbj_direct.specs.Schedules.{inverse_keys}
use Rattle.mbj_direct.proofs.keys.inverse_schedule.Given as goal

abbrev pub invariant-rounds : goal.invariant-rounds
invariant-rounds l = record {
  size : length (inverse_keys l.key l.rounds l.r) ≡ 16 * l.r;
  bytes : l.bytes ≡ inverse_keys l.key l.rounds l.r ++ replicate (240 - 16 * l.r) 0;
}
