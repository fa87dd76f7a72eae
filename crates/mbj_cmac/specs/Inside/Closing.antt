-- The last block of a message, closed by the first subkey (SP 800-38B, 6.2, step 4).
use Rattle.std.specs.Prelude.{ℕ, ◌-◌, nat_eq, List, ◌∷◌, ◌++◌, length, replicate, if◌then◌else◌}
use Rattle.mbj_types.specs.Blocks.{xor_lists}
use Rattle.mbj_types.specs.Cmac.{doubled}

-- the second subkey is the first one, k, doubled
abbrev pub closed_by : List ℕ → List ℕ → List ℕ
closed_by k p =
    if nat_eq (length p) 16 then xor_lists p k
    else xor_lists (p ++ 0x80 ∷ replicate (15 - length p) 0) (doubled k)
