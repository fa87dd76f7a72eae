-- Each place is one of the table, or from 128 on.
use Rattle.std.proofs.Common.{◌≡◌, ℕ, ◌||◌, List, [], ◌∷◌, Bool, true, false, nat_lt, nat_le, refl, inl, inr}
use Rattle.std.proofs.lemmas.Bool.{ltb-true, leb-true}
use Rattle.mbj_types.specs.Lanes.{IsTableIndex, lane_at}
use Rattle.mbj_aes.proofs.ByteCases.{at_each}
use Rattle.mbj_job_tests.proofs.types.lanes.a_table_is_looked_up_in_every_lane.Goals as goal

abbrev is_index : ℕ → Bool
is_index x = nat_lt x 16 || nat_le 128 x

told : (x : ℕ) → is_index x ≡ true → IsTableIndex x
told x h = go (nat_lt x 16) refl h
  where
    go : (t : Bool) → nat_lt x 16 ≡ t → (t || nat_le 128 x) ≡ true → IsTableIndex x
    go true e h = inl (ltb-true x 16 e)
    go false e h = inr (leb-true 128 x h)

abbrev places : List ℕ
places =
    15 ∷ 0 ∷ 128 ∷ 1 ∷ 7 ∷ 255 ∷ 8 ∷ 14 ∷ 2 ∷ 13 ∷ 3 ∷ 12 ∷ 200 ∷ 4 ∷ 11 ∷ 5 ∷ 9 ∷ 10 ∷ 6 ∷ 129 ∷ 5 ∷ 11 ∷ 4 ∷ 200 ∷ 12 ∷ 3 ∷ 13 ∷ 2 ∷ 14 ∷ 8 ∷ 255 ∷ 7
    ∷ []

pub looked_up-found-requires-2 : goal.looked_up-found-requires-2
looked_up-found-requires-2 g c i h = told (lane_at 8 places i) (at_each (λ k. is_index (lane_at 8 places k)) 32 i refl h)
