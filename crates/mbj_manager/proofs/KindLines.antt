-- What is by kinds, with another in the place of a kind's.
use Rattle.std.proofs.Common.{◌≡◌, ◌≢◌, ◌⊎◌, inl, inr, refl, ap, sym, ◌∙◌, slice_index_or}
use Rattle.std.proofs.lemmas.Bool.{cases_eq, eq-eqb, ne_eqb}
use Rattle.mbj_types.specs.Kinds.{all_kinds, index_of}
use Rattle.mbj_types.specs.declared.kind.Kind.{Kind}
use Rattle.mbj_types.specs.declared.kind.Kind.TheVariants as kind
use Rattle.mbj_manager.specs.StateCode.{told-kinds}
use Rattle.mbj_manager.specs.Machine.Queues.{put}

same-index : (j k : Kind) → index_of j ≡ index_of k → j ≡ k
same-index j k e =
    sym (told-kinds kind.Cbc128 (λ i. i) j) ∙ ap (λ n. slice_index_or all_kinds n kind.Cbc128) e ∙ told-kinds kind.Cbc128 (λ i. i) k

-- two kinds are one, or they are not
pub same-kind : (j k : Kind) → (j ≡ k) ⊎ (j ≢ k)
same-kind j k = elim (cases_eq (index_of j) (index_of k)) [
  | inl e ↦ inl (same-index j k e)
  | inr ne ↦ inr (λ e. ne (ap index_of e))
]

pub put-case : {A : Type 0} (k j : Kind) (x : A) (xs : Kind → A) → ((j ≡ k) × (put k x xs j ≡ x)) ⊎ ((j ≢ k) × (put k x xs j ≡ xs j))
put-case k j x xs = elim (cases_eq (index_of j) (index_of k)) [
  | inl e ↦ inl (same-index j k e, rw (eq-eqb (index_of j) (index_of k) e) refl)
  | inr ne ↦ inr ((λ e. ne (ap index_of e)), rw (ne_eqb (index_of j) (index_of k) ne) refl)
]

pub put-self : {A : Type 0} (k : Kind) (x : A) (xs : Kind → A) → put k x xs k ≡ x
put-self k x xs = rw (eq-eqb (index_of k) (index_of k) refl) refl
