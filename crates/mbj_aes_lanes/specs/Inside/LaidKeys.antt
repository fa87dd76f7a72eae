-- Schedules whose round keys are kept as the rounds take them.
use Rattle.std.specs.Prelude.{ℕ, ◌+◌, nat_eq, List, [], map, slice_index, slice_index_or, if◌then◌else◌}
use Rattle.std.specs.List.{range_with_len, concat}
use Rattle.mbj_types.specs.Aes.{mix_columns}
use Rattle.mbj_aes.specs.BlockWords.{block_with}
use Rattle.mbj_aes_lanes.specs.Inside.Layouts.{tower_state, tower_key, last_key, inverse_key}

-- the schedule with round keys 0 to n
unfoldable pub schedule_with : (ℕ → List ℕ) → ℕ → List ℕ
schedule_with key n = concat (map key (range_with_len 0 (n + 1)))

-- the key of round r of n: the first one, the last one, or one between them
abbrev pub key_of_round : ℕ → ℕ → List ℕ → List ℕ → List ℕ → List ℕ
key_of_round n r first last between = if nat_eq r 0 then first else if nat_eq r n then last else between

-- round key r of n rounds that the bytes f stand for in encryption
abbrev pub laid_key : ℕ → ℕ → (ℕ → ℕ) → List ℕ
laid_key n r f = key_of_round n r (tower_state 0 f) (last_key f) (tower_key r f)

-- the same in decryption: the keys between the first and the last had INVMIXCOLUMNS
abbrev pub inverse_laid_key : ℕ → ℕ → (ℕ → ℕ) → List ℕ
inverse_laid_key n r f = key_of_round n r (block_with f) (inverse_key 0 f) (mix_columns (inverse_key r f))

-- the schedule that such round keys are
abbrev pub laid_schedule : (ℕ → ℕ → (ℕ → ℕ) → List ℕ) → ℕ → List (List ℕ) → List ℕ
laid_schedule laid n keys = schedule_with (λ r. laid n r (slice_index (slice_index_or keys r []))) n
