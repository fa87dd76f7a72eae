-- What the lanes hold after some were put.
use Rattle.std.proofs.Common.{◌≡◌, ℕ, zero, suc, ◌<◌, if◌then◌else◌, Bool, true, false, List, [], ◌∷◌, get_or, set, replicate, Some, None, refl, sym, ap, subst, inl, inr, arith}
use Rattle.std.specs.Prelude.{IsSome, unwrap_or}
use Rattle.std.proofs.lemmas.List.Elements.{All-replicate}
use Rattle.std.proofs.lemmas.Simd.{get_or-replicate}
use Rattle.mbj_types.specs.declared.kind.TheConstants.{AES_LANES}
use Rattle.mbj_types.specs.Aes.{key_schedule}
use Rattle.mbj_aes.specs.Bytes.{IsRoundCount}
use Rattle.mbj_aes_lanes.specs.KeyBytes.{IsKeyArray, key_of_array}
use Rattle.mbj_aes_lanes.specs.Inside.WideKeys.{held_lanes}

-- zeros are a key, too
pub IsKeyArray-zeros : (n : ℕ) → IsRoundCount n → IsKeyArray n (replicate 32 0)
IsKeyArray-zeros n count =
    record {
      size = refl;
      bytes = All-replicate (λ x. x < 256) 32 0 (omega arith);
      zeros = elim count [
        | inl e ↦ rw e refl
        | inr (inl e) ↦ rw e refl
        | inr (inr e) ↦ rw e refl
      ];
    }

pub IsKeyArray-same : (n : ℕ) (key : List ℕ) → IsKeyArray n key → (i : ℕ) → i < AES_LANES → IsKeyArray n (get_or (replicate AES_LANES key) i [])
IsKeyArray-same n key is i h = subst (IsKeyArray n) (sym (get_or-replicate AES_LANES i key [] h)) is

-- one lane more was put
pub held_lanes-put : (n : ℕ) (keys : List (List ℕ)) (put : List Bool) (lane : ℕ) (key : List ℕ)
    → held_lanes n (set keys lane key) (set put lane true) ≡ set (held_lanes n keys put) lane (Some (key_schedule (key_of_array n key)))
unfolding held_lanes
held_lanes-put n [] put lane key = refl
held_lanes-put n (k ∷ keys) [] zero key = refl
held_lanes-put n (k ∷ keys) [] (suc lane) key = refl
held_lanes-put n (k ∷ keys) (here ∷ put) zero key = refl
held_lanes-put n (k ∷ keys) (here ∷ put) (suc lane) key =
    ap (λ lanes. (if here then Some (key_schedule (key_of_array n k)) else None) ∷ lanes) (held_lanes-put n keys put lane key)

-- the schedule in a lane that was put
pub held_schedule : (n : ℕ) (keys : List (List ℕ)) (put : List Bool) (i : ℕ) → IsSome (get_or (held_lanes n keys put) i None)
    → key_schedule (key_of_array n (get_or keys i [])) ≡ unwrap_or (get_or (held_lanes n keys put) i None) []
unfolding held_lanes
held_schedule n [] put i some = let none : false ≡ true = some in cc
held_schedule n (k ∷ keys) [] i some = let none : false ≡ true = some in cc
held_schedule n (k ∷ keys) (true ∷ put) zero some = refl
held_schedule n (k ∷ keys) (false ∷ put) zero some = let none : false ≡ true = some in cc
held_schedule n (k ∷ keys) (here ∷ put) (suc i) some = held_schedule n keys put i some
