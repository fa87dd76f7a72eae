-- The words before the next one are those of the schedule, the rest are zeros, and the turn is that of the next one.
use Rattle.std.proofs.Common.{◌≡◌, ◌-◌, ◌*◌, ◌++◌, replicate}
use Rattle.mbj_types.specs.Aes.{schedule}
use Rattle.mbj_aes.specs.Inside.Turns.{IsTurn}
use Rattle.mbj_aes.specs.declared.sizes.TheConstants.{MAX_SCHEDULE_BYTES}
use Rattle.mbj_aes.proofs.expansion.expanded_key.Given as goal

abbrev pub invariant-words : goal.invariant-words
invariant-words l = record {
  bytes : l.bytes ≡ schedule l.key_words l.key (l.i - l.key_words) ++ replicate (MAX_SCHEDULE_BYTES - 4 * l.i) 0;
  turn : IsTurn l.key_words l.i l.turn;
}
