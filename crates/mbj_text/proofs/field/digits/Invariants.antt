-- The digits so far write the number, and the others go on behind it.
use Rattle.std.proofs.Common.{◌≡◌, ◌<◌, ◌^◌, drop}
use Rattle.mbj_text.specs.Inside.Reading.{digits_after}
use Rattle.mbj_text.proofs.field.digits.Given as goal

abbrev pub invariant-loop-digit : goal.invariant-loop-digit
invariant-loop-digit l = record {
  bound : l.number < 10 ^ l.digit-index;
  so_far : digits_after l.number (drop l.digit-index l.text) ≡ digits_after 0 l.text;
}
