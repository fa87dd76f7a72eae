-- If a flush gives nothing back nothing is owed.
use Rattle.std.proofs.Common.{◌≡◌, ◌≢◌, ◌∙◌, List, [], ◌∷◌, Option, None, Some, IsSome, slice_get, refl, ap, sym}
use Rattle.mbj_types.specs.declared.done.Done.{Done}
use Rattle.mbj_manager.specs.State.{ManagerState, after_get_completed, given_at}
use Rattle.mbj_manager.proofs.CallsKeep.{earliest-given}

not-some : (o : Option Done) → o ≡ None → IsSome o → ⊥
not-some None none some = cc
not-some (Some d) none some = cc

pub none-owed : (ds : List Done) (h : ManagerState) → h.owed ≡ ds → (ds ≢ [] → slice_get h.machine.left 0 ≡ Some []) → (after_get_completed h).0 ≡ None → ds ≡ []
none-owed [] h is done none = refl
none-owed (d ∷ ds) h is done none =
    let given-one : IsSome (given_at (d ∷ ds) h.machine.left h).0 = earliest-given (d ∷ ds) h.machine.left h (λ e. cc) (done (λ e. cc)) in
    let given-none : (given_at (d ∷ ds) h.machine.left h).0 ≡ None = sym (ap (λ (l : List Done). (given_at l h.machine.left h).0) is) ∙ none in
    absurd (not-some (given_at (d ∷ ds) h.machine.left h).0 given-none given-one)
