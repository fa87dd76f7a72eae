-- The round keys of the equivalent inverse cipher (FIPS 197, 5.3.5).
use Rattle.std.specs.Prelude.{ℕ, zero, suc, ◌+◌, ◌-◌, ◌/◌, ◌==◌, ◌||◌, List, [], ◌++◌, length, if◌then◌else◌}
use Rattle.mbj_types.specs.Aes.{round_key, inv_mix_columns}

-- KEYEXPANSIONEIC: that of round r of n: that of the schedule w, which goes through INVMIXCOLUMNS but for the first and the last one
abbrev pub inverse_round_key : List ℕ → ℕ → ℕ → List ℕ
inverse_round_key w n r = if r == 0 || r == n then round_key w r else inv_mix_columns (round_key w r)

-- EQINVCIPHER takes them from round n down: the first k of them
unfoldable pub inverse_keys : List ℕ → ℕ → ℕ → List ℕ
inverse_keys w n zero = []
inverse_keys w n (suc k) = inverse_keys w n k ++ inverse_round_key w n (n - k)

-- all of them, of a schedule that has 16 bytes for each round and 16 more
unfoldable pub inverse_schedule : List ℕ → List ℕ
inverse_schedule w =
    let n = length w / 16 - 1 in
    inverse_keys w n (n + 1)
