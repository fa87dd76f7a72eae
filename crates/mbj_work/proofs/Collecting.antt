-- What is collected one after another.
use Rattle.std.proofs.Common.{◌≡◌, ◌<◌, ◌⊎◌, inl, inr, ℕ, ◌+◌, List, [], ◌∷◌, ◌++◌, length, drop, suc, Some, sym, ap, ◌∙◌, arith, append_assoc, add-one, drop-cons}
use Rattle.std.proofs.lemmas.List.{drop-append-le}
use Rattle.std.specs.Prelude.{slice_get}
use Rattle.std.proofs.lemmas.Option.{slice_get_within, get_or_from_slice_get}
use Rattle.mbj_types.specs.declared.done.Done.{Done}
use Rattle.mbj_core.specs.declared.party.View.{View}
use Rattle.mbj_front.specs.Views.{after_publish}
use Rattle.mbj_work.specs.Inside.Runs.{with_due}
use Rattle.mbj_work.specs.Parties.{CollectsNothing}

-- what was given and what is still due stay the same together
pub given_on : {D : Type 0} (given more due still : List D) (handed next : ℕ) (d : D)
    → slice_get due handed ≡ Some d → next ≡ handed + 1 → more ≡ given ++ d ∷ [] → still ≡ due
    → more ++ drop next still ≡ given ++ drop handed due
given_on {D} given more due still handed next d here next_is more_is still_is =
    let rest : drop handed due ≡ d ∷ drop (suc handed) due
    = drop-cons due handed d (slice_get_within due handed d here) ∙ ap (λ (x : D). x ∷ drop (suc handed) due) (get_or_from_slice_get due handed d d here) in
    ap (λ (p : List D × List D). p.0 ++ drop next p.1) (λ i. (more_is i, still_is i))
    ∙ append_assoc given (d ∷ []) (drop next due)
    ∙ ap (λ (l : List D). given ++ l) (ap (λ (n : ℕ). d ∷ drop n due) (next_is ∙ add-one handed) ∙ sym rest)

-- one more is due
pub due_more : (given : List Done) (v w : View Done) (d : Done) (out : ℕ) → w ≡ after_publish v d → length v.due ≡ v.handed + out
    → with_due given w ≡ with_due given v ++ d ∷ []
due_more given v w d out is count =
    ap (with_due given) is
    ∙ ap (λ (l : List Done). given ++ l) (drop-append-le v.handed v.due (d ∷ []) (omega (arith, count)))
    ∙ sym (append_assoc given (drop v.handed v.due) (d ∷ []))

-- if nothing was collected, what is due stays as it is
pub due_still : {D : Type 0} (v w : View D) → CollectsNothing v w → (w.number ≡ v.number) × (w.due ≡ v.due) × (w.handed ≡ v.handed)
due_still v w (inl none) = (ap (λ u. u.number) none.1, ap (λ u. u.due) none.1, ap (λ u. u.handed) none.1)
due_still v w (inr look) = (ap (λ u. u.number) look.1.2, ap (λ u. u.due) look.1.2, ap (λ u. u.handed) look.1.2)

-- a party of which something is out is a submitter
pub submits_still : (number submitters out left : ℕ) → (number < submitters) ⊎ (out ≡ 0) → left < out → number < submitters
submits_still number submitters out left (inl is) some = is
submits_still number submitters out left (inr none) some = absurd (omega (arith, none, some))
