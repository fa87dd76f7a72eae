-- The array is the schedule of the key and zeros, and the view is the schedule.
use Rattle.std.proofs.Common.{◌≡◌, ◌+◌, ◌*◌, take, ap, length, ◌∙◌, arith}
use Rattle.mbj_types.specs.Aes.{key_schedule, encipher, decipher}
use Rattle.mbj_aes.proofs.ExpandedKeys.{IsExpansion, IsRoundCount-round_count, IsBytes-expansion, IsPadded-expansion, IsExpanded-expansion, take-expansion, length-key_schedule, encipher-key_schedule, decipher-key_schedule}
use Rattle.mbj_aes.proofs.States.{IsBytes-told}
use Rattle.mbj_aes.proofs.schedule.Schedule.expand.Goals as goal

expansion : (c : goal.After-round_count) → IsExpansion c.args.key.now c.expanded_key.result c.round_count.result
expansion c = record {
  of_key = record { size = c.requires; bytes = IsBytes-told c.args.key.now (λ k. omega (arith, c.type_inv.key k)) };
  array = c.expanded_key.ensures;
  count = c.round_count.ensures;
}

view_is : (c : goal.After-round_count)
    → take (16 * (c.round_count.result + 1)) c.expanded_key.result ≡ key_schedule c.args.key.now
view_is c = take-expansion c.args.key.now c.expanded_key.result c.round_count.result (expansion c)

pub invariant_of-result : goal.invariant_of-result
invariant_of-result c = (
  IsRoundCount-round_count (length c.args.key.now) c.round_count.result c.requires c.round_count.ensures,
  IsBytes-expansion c.args.key.now c.expanded_key.result c.round_count.result (expansion c),
  IsPadded-expansion c.args.key.now c.expanded_key.result c.round_count.result (expansion c),
  IsExpanded-expansion c.args.key.now c.expanded_key.result c.round_count.result (expansion c),
)

pub returns-clause-schedule : goal.returns-clause-schedule
returns-clause-schedule c = view_is c

pub returns-clause-length : goal.returns-clause-length
returns-clause-length c = ap length (view_is c) ∙ length-key_schedule c.args.key.now (expansion c).of_key

pub returns-clause-encipher : goal.returns-clause-encipher
returns-clause-encipher c b = ap (λ w. encipher w b) (view_is c) ∙ encipher-key_schedule c.args.key.now b

pub returns-clause-decipher : goal.returns-clause-decipher
returns-clause-decipher c b = ap (λ w. decipher w b) (view_is c) ∙ decipher-key_schedule c.args.key.now b
