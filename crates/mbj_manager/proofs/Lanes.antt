-- The lanes by their kinds: what is given to one kind leaves the others as they are.
use Rattle.std.proofs.Common.{◌≡◌, ◌≢◌, ℕ, ◌<◌, List, inl, inr, refl, sym, ◌∙◌, subst, arith}
use mathlib.Core.Path.{fun_ext}
use Rattle.mbj_types.specs.declared.kind.Kind.{Kind}
use Rattle.mbj_types.specs.declared.kind.Kind.TheVariants as kind
use Rattle.mbj_types.specs.Kinds.{lanes_of}
use Rattle.mbj_manager.specs.Machine.Queues.{Queue, WaitingJob, with_queue}
use Rattle.mbj_manager.proofs.KindLines.{put-case}

-- the lanes of a kind with another lane queue
abbrev pub with_waiting : Queue → List WaitingJob → Queue
with_waiting l ws = record l { waiting = ws }

-- the job n as it waits
abbrev pub waits : ℕ → ℕ → WaitingJob
waits n rest = record { number = n; rest = rest }

-- what holds of the lanes that a kind is given, and of those of every other kind, holds of every kind's
pub each-lane : (P : Kind → Queue → Type 0) (k : Kind) (l : Queue) (lanes : Kind → Queue) → P k l
    → ((j : Kind) → j ≢ k → P j (lanes j)) → (j : Kind) → P j (with_queue k l lanes j)
each-lane P k l lanes here there j = elim (put-case k j l lanes) [
  | inl e ↦ subst (P j) (sym e.1) (subst (λ i. P i l) (sym e.0) here)
  | inr e ↦ subst (P j) (sym e.1) (there j e.0)
]

-- a kind has the lanes that it is given
pub given-lane : (k : Kind) (l : Queue) (lanes : Kind → Queue) → with_queue k l lanes k ≡ l
given-lane k l lanes = each-lane (λ j given. j ≡ k → given ≡ l) k l lanes (λ e. refl) (λ j ne e. absurd (ne e)) k refl

-- another kind has the lanes that it had
pub other-lane : (k j : Kind) (l : Queue) (lanes : Kind → Queue) → j ≢ k → with_queue k l lanes j ≡ lanes j
other-lane k j l lanes ne =
    each-lane (λ i given. i ≢ k → given ≡ lanes i) k l lanes (λ ne. absurd (ne refl)) (λ i ne _. refl) j ne

-- of lanes that a kind is given twice the later ones stay
pub again : (k : Kind) (l m : Queue) (lanes : Kind → Queue) → with_queue k l (with_queue k m lanes) ≡ with_queue k l lanes
again k l m lanes = fun_ext (each-lane (λ j given. given ≡ with_queue k l lanes j) k l (with_queue k m lanes) (sym (given-lane k l lanes))
    (λ j ne. other-lane k j m lanes ne ∙ sym (other-lane k j l lanes ne)))

-- a kind has a lane at least
pub some-lanes : (k : Kind) → 0 < lanes_of k
some-lanes kind.Cbc128 = omega arith
some-lanes _ = omega arith
