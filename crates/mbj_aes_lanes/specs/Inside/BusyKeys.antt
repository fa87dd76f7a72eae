-- The round keys of few lanes, laid out.
use Rattle.std.specs.Prelude.{ℕ, List, [], slice_index_or}
use Rattle.mbj_aes_lanes.specs.Inside.LaidKeys.{laid_key, laid_schedule}

-- the schedule of n rounds whose round keys stand at place p
abbrev pub few_schedule : ℕ → List (List (List ℕ)) → ℕ → List ℕ
few_schedule n keys p = laid_schedule laid_key n (slice_index_or keys p [])
