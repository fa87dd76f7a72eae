-- What is due stays as it is from one step of a party to another.
use Rattle.std.proofs.Common.{◌≡◌, ℕ, Bool, true, false, List, [], ◌++◌, refl, sym, ap, ◌∙◌, append-nil, append_assoc}
use Rattle.std.specs.Bool.{OnTrue}
use Rattle.mbj_core.specs.declared.party.View.{View}
use Rattle.mbj_core.specs.declared.party.Phase.TheVariants.{Rest}
use Rattle.mbj_front.specs.Views.{after_claim, after_finish}
use Rattle.mbj_work.specs.Hunts.{after_looks, looks_round, FindsNone, EndsUnfound}
use Rattle.mbj_work.specs.Parties.{KeepsDue}

-- if nothing is done
pub keeps_all : {D : Type 0} (v : View D) → v.phase ≡ Rest → KeepsDue v v
keeps_all v rest = (refl, rest, refl, refl, ([], sym (append-nil v.looks)))

-- one stretch after another
pub keeps_on : {D : Type 0} (u v w : View D) → KeepsDue u v → KeepsDue v w → KeepsDue u w
keeps_on u v w p q = (
  q.0 ∙ p.0,
  q.1,
  q.2 ∙ p.2,
  q.3 ∙ p.3,
  (p.4.0 ++ q.4.0, q.4.1 ∙ ap (λ l. l ++ q.4.0) p.4.1 ∙ append_assoc u.looks p.4.0 q.4.0),
)

pub keeps_looking : {D : Type 0} (v w : View D) (looks : List (ℕ × ℕ)) → v.phase ≡ Rest → w ≡ after_looks v looks → KeepsDue v w
keeps_looking v w looks rest is =
    (ap (λ u. u.number) is, ap (λ u. u.phase) is ∙ rest, ap (λ u. u.due) is, ap (λ u. u.handed) is, (looks, ap (λ u. u.looks) is))

pub keeps_claiming : {D : Type 0} (v w : View D) (cell : ℕ) (d : D) → v.phase ≡ Rest → w ≡ after_claim v cell d → KeepsDue v w
keeps_claiming v w cell d rest is =
    (ap (λ u. u.number) is, ap (λ u. u.phase) is ∙ rest, ap (λ u. u.due) is, ap (λ u. u.handed) is, (_, ap (λ u. u.looks) is))

pub keeps_finishing : {D : Type 0} (v w : View D) (hand : List (ℕ × D)) → v.phase ≡ Rest → w ≡ after_finish v hand → KeepsDue v w
keeps_finishing v w hand rest is =
    (ap (λ u. u.number) is, ap (λ u. u.phase) is ∙ rest, ap (λ u. u.due) is, ap (λ u. u.handed) is, ([], ap (λ u. u.looks) is ∙ sym (append-nil v.looks)))

-- a hunt that found none comes last
pub ends_unfound : {D : Type 0} (cells at : ℕ) (u v w : View D) → KeepsDue u v → FindsNone cells at v w → EndsUnfound cells u w
ends_unfound cells at u v w kept none =
    (kept.4.0, at, none.0, none.1, none.2, ap (λ x. x.looks) none.3 ∙ ap (λ l. l ++ looks_round cells at none.0) kept.4.1)

-- and it stays the last if no look is made
pub unfound_still : {D : Type 0} (found_none : Bool) (cells : ℕ) (v w u : View D) → u.looks ≡ w.looks → OnTrue found_none (EndsUnfound cells v w)
    → OnTrue found_none (EndsUnfound cells v u)
unfound_still true cells v w u same e = (e.0, e.1, e.2, e.3, e.4, same ∙ e.5)
unfound_still false cells v w u same e = tt

-- a stretch before it
pub unfound_later : {D : Type 0} (cells : ℕ) (u v w : View D) → KeepsDue u v → EndsUnfound cells v w → EndsUnfound cells u w
unfound_later cells u v w kept e = (
  kept.4.0 ++ e.0,
  e.1,
  e.2,
  e.3,
  e.4,
  e.5 ∙ ap (λ l. (l ++ e.0) ++ looks_round cells e.1 e.2) kept.4.1 ∙ ap (λ l. l ++ looks_round cells e.1 e.2) (append_assoc u.looks kept.4.0 e.0),
)
