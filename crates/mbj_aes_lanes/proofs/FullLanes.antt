-- Lanes that are put, one after another.
use Rattle.std.proofs.Common.{◌≡◌, ℕ, List, length, get_or, set, Option, Some, None, subst, sym, ap, ◌∙◌, inl, inr, refl, get_or-set_same, get_or-set_other}
use Rattle.std.specs.Prelude.{IsSome}
use Rattle.std.proofs.lemmas.Bool.{cases_eq, cases_lt}
use Rattle.std.proofs.lemmas.List.{set_past}
use Rattle.std.proofs.lemmas.Simd.{get_or-replicate}
use Rattle.mbj_types.specs.declared.kind.TheConstants.{AES_LANES}
use Rattle.mbj_aes_lanes.specs.KeyLanes.{KeyLanes, same_keys, with_key, IsFull}

abbrev no_schedule : Option (List ℕ)
no_schedule = None

-- one schedule in all lanes
pub IsFull-same : (keys : KeyLanes) (w : List ℕ) → keys ≡ same_keys w → IsFull keys
IsFull-same keys w e i h =
    subst IsSome
    (sym (ap (λ k. get_or k.lanes i no_schedule) e ∙ get_or-replicate AES_LANES i (Some w) no_schedule h))
    refl

-- full lanes stay full
pub IsFull-with_key : (keys : KeyLanes) (lane : ℕ) (w : List ℕ) → IsFull keys → IsFull (with_key keys lane w)
IsFull-with_key keys lane w full i h = elim (cases_eq i lane) [
  | inr ne ↦ subst IsSome (sym (get_or-set_other keys.lanes lane i (Some w) no_schedule ne)) (full i h)
  | inl same ↦ elim (cases_lt lane (length keys.lanes)) [
    | inl inside ↦
        subst IsSome
        (sym (ap (λ (k : ℕ). get_or (set keys.lanes lane (Some w)) k no_schedule) same
        ∙ get_or-set_same keys.lanes lane (Some w) no_schedule inside))
        refl
    | inr past ↦
        subst IsSome (sym (ap (λ ks. get_or ks i no_schedule) (set_past keys.lanes lane (Some w) past))) (full i h)
  ]
]
