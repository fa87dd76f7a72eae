-- Cells that are finished one after another.
use Rattle.std.proofs.Common.{◌≡◌, List, [], ◌∷◌, ◌++◌, reverse, length, drop, refl, sym, ap, ◌∙◌}
use Rattle.std.proofs.lemmas.List.{reverse-append}
use Rattle.mbj_types.specs.declared.job.Job.{Job}
use Rattle.mbj_types.specs.declared.done.Done.{Done}
use Rattle.mbj_core.specs.declared.party.View.{View}
use Rattle.mbj_front.specs.declared.front.SharedFront.{SharedFront}
use Rattle.mbj_front.specs.declared.standard.Standard.{Standard}
use Rattle.mbj_front.specs.Views.{after_finish}
use Rattle.mbj_manager.specs.State.{ManagerState, after_flush}
use Rattle.mbj_manager.specs.Calls.{FlushesEach}
use Rattle.mbj_work.specs.Claims.{FinishesEach, SettlesInTurn}
use Rattle.mbj_work.specs.Inside.Holding.{results_in}

-- the last of a list is the first of its reverse
pub last-first : (ds es : List Done) (d : Done) → ds ≡ es ++ d ∷ [] → reverse ds ≡ d ∷ reverse es
last-first ds es d is = ap reverse is ∙ reverse-append es (d ∷ [])

pub same-left : (xs ys zs : List Done) → xs ++ ys ≡ xs ++ zs → ys ≡ zs
same-left [] ys zs e = e
same-left (x ∷ xs) ys zs e = same-left xs ys zs (ap (λ (ds : List Done). drop 1 ds) e)

module _ (front : SharedFront Job Done Standard) where
  -- only the hand changes
  pub each-part : (ds : List Done) (v w : View Done) → FinishesEach front ds v w → w ≡ after_finish v w.hand
  each-part [] v w is = is ∙ ap (λ (u : View Done). after_finish v u.hand) (sym is)
  each-part (d ∷ ds) v w f =
      let u = f.0 in each-part ds u w f.2 ∙ ap (λ (x : View Done). after_finish x w.hand) f.1.part

  -- these were its first results
  pub each-order : (ds : List Done) (v w : View Done) → FinishesEach front ds v w → ds ++ results_in w.hand ≡ results_in v.hand
  each-order [] v w is = ap (λ (u : View Done). results_in u.hand) is
  each-order (d ∷ ds) v w f =
      let u = f.0 in
      ap (λ (es : List Done). d ∷ es) (each-order ds u w f.2 ∙ ap (λ (x : View Done). results_in x.hand) f.1.part)
      ∙ sym (ap results_in f.1.first)

  -- if each was flushed, these are settles
  pub each-settles : (ds : List Done) (v w : View Done) (m m' : ManagerState) → FlushesEach ds m m' → FinishesEach front ds v w
      → SettlesInTurn front (length ds) v m w m'
  each-settles [] v w m m' e f = (f, e)
  each-settles (d ∷ ds) v w m m' e f =
      (f.0, (after_flush m).1, record { done = d; given = e.0; manager_is = refl; part = f.1 }, each-settles ds f.0 w (after_flush m).1 m' e.1 f.2)
