-- Each is computed at each half or byte.
use Rattle.std.proofs.Common.{◌≡◌, ℕ, ◌+◌, ◌-◌, ◌<◌, ◌≤◌, ◌==◌, true, slice_index, refl, subst, arith}
use Rattle.mbj_types.specs.Aes.{times, power}
use Rattle.mbj_aes.specs.Tower.{by_halves, from_tower, from_decryption, element, linear_part}
use Rattle.mbj_aes.specs.declared.tables.TheConstants.{TO_DECRYPTION_LOW, TO_DECRYPTION_HIGH, INVERSES, SCALED_INVERSES, SUB_PLAIN_FIRST, SUB_PLAIN_SECOND, INV_SUB_PLAIN_FIRST, INV_SUB_PLAIN_SECOND}
use Rattle.mbj_aes.proofs.ByteCases.{each_below, same_at_each}
use Rattle.mbj_aes.proofs.TowerCases.{from_tower-to_tower}
use Rattle.mbj_aes.proofs.laws.tables_are_of_the_field.Goals as goal

-- a fact of the numbers from 1 to 15
from_one : (f : ℕ → ℕ) (c : ℕ) → each_below (λ m. f (m + 1) == c) 15 ≡ true → (n : ℕ) → 1 ≤ n → n < 16 → f n ≡ c
from_one f c e n least most =
    let back : n - 1 + 1 ≡ n = omega arith in
    subst (λ (k : ℕ). f k ≡ c) back (same_at_each (λ m. f (m + 1)) (λ m. c) 15 (n - 1) e (omega arith))

pub returns-clause-subfield : goal.returns-clause-subfield
unfolding from_tower power times
returns-clause-subfield c n h = same_at_each (λ n. power (element n) 16) element 16 n refl h

pub returns-clause-tower : goal.returns-clause-tower
unfolding from_tower times
returns-clause-tower c n h = same_at_each from_tower (λ n. times 0x12 (element n)) 16 n refl h

pub returns-clause-to_tower : goal.returns-clause-to_tower
returns-clause-to_tower c x h = from_tower-to_tower x h

pub returns-clause-inverses : goal.returns-clause-inverses
unfolding from_tower times
returns-clause-inverses c = from_one (λ n. times (element n) (element (slice_index INVERSES n))) 1 refl

pub returns-clause-scaled : goal.returns-clause-scaled
unfolding from_tower times
returns-clause-scaled c = from_one (λ n. times (element n) (element (slice_index SCALED_INVERSES n))) 0xe1 refl

pub returns-clause-first : goal.returns-clause-first
unfolding from_tower times
returns-clause-first c = from_one (λ n. times (element n) (slice_index INV_SUB_PLAIN_FIRST n)) 0x1f refl

pub returns-clause-second : goal.returns-clause-second
unfolding from_tower times
returns-clause-second c = from_one (λ n. times (element n) (slice_index INV_SUB_PLAIN_SECOND n)) 0x1e refl

pub returns-clause-sub_first : goal.returns-clause-sub_first
returns-clause-sub_first c n h = same_at_each (slice_index SUB_PLAIN_FIRST) (λ n. linear_part (slice_index INV_SUB_PLAIN_FIRST n)) 16 n refl h

pub returns-clause-sub_second : goal.returns-clause-sub_second
returns-clause-sub_second c n h = same_at_each (slice_index SUB_PLAIN_SECOND) (λ n. linear_part (slice_index INV_SUB_PLAIN_SECOND n)) 16 n refl h

pub returns-clause-decryption : goal.returns-clause-decryption
unfolding from_tower from_decryption
returns-clause-decryption c x h = same_at_each from_decryption (λ x. linear_part (from_tower x)) 256 x refl h

pub returns-clause-to_decryption : goal.returns-clause-to_decryption
unfolding from_decryption
returns-clause-to_decryption c x h = same_at_each (λ x. from_decryption (by_halves TO_DECRYPTION_LOW TO_DECRYPTION_HIGH x)) (λ x. x) 256 x refl h
