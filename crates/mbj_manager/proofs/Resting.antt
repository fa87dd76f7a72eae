-- Steps that change nothing: those of a course with nothing in the agenda, and those of a flush whose earliest job is finished.
use Rattle.std.proofs.Common.{◌≡◌, ℕ, zero, suc, List, [], ◌∷◌, Some, slice_get, slice_index_or, refl, sym, ap, ◌∙◌}
use Rattle.std.specs.Fn.{iterate}
use Rattle.mbj_manager.specs.Machine.Stages.{Pending}
use Rattle.mbj_manager.specs.Machine.Queues.{Machine}
use Rattle.mbj_manager.specs.declared.lane.Cause.{Cause}
use Rattle.mbj_manager.specs.Machine.Course.{stepped, stepped_at, flush_step, flush_step_at}
use Rattle.mbj_manager.specs.Machine.Between.{StepsEndAlike}
use Rattle.mbj_manager.proofs.Steps.{after_steps, after_flush_steps}

-- with nothing in the agenda a course changes nothing
pub rests : (at : Cause) (steps : ℕ) (m : Machine) → m.agenda ≡ [] → after_steps at steps m ≡ m
rests at zero m e = refl
rests at (suc steps) m e =
    let stays : stepped at m ≡ m = ap (λ a. stepped_at at a m) e in
    ap (after_steps at steps) stays ∙ rests at steps m e

-- if the earliest job is finished a flush step runs nothing
flush-step-rests : (left : List (List Pending)) (m : Machine) → slice_index_or left 0 [] ≡ [] → flush_step_at (slice_get left 0) m ≡ m
flush-step-rests [] m done = refl
flush-step-rests (ps ∷ left) m done = ap (λ ps. flush_step_at (Some ps) m) done

pub flush-rests : (steps : ℕ) (m : Machine) → slice_index_or m.left 0 [] ≡ [] → after_flush_steps steps m ≡ m
flush-rests zero m done = refl
flush-rests (suc steps) m done = ap (after_flush_steps steps) (flush-step-rests m.left m done) ∙ flush-rests steps m done

-- ---- any number that is enough

stays-put : {A : Type 0} (f : A → A) (n : ℕ) (x : A) → f x ≡ x → iterate f n x ≡ x
stays-put f zero x e = refl
stays-put f (suc n) x e = ap (iterate f n) e ∙ stays-put f n x e

ends-alike : {A : Type 0} (f : A → A) (Ended : A → Type 0) → ((x : A) → Ended x → f x ≡ x) → (a b : ℕ) (x : A)
    → Ended (iterate f a x) → Ended (iterate f b x) → iterate f a x ≡ iterate f b x
ends-alike f Ended stays zero b x ended other = sym (stays-put f b x (stays x ended))
ends-alike f Ended stays (suc a) zero x ended other = stays-put f (suc a) x (stays x other)
ends-alike f Ended stays (suc a) (suc b) x ended other = ends-alike f Ended stays a b (f x) ended other

pub steps-end-alike : (m : Machine) → StepsEndAlike m
steps-end-alike m = record {
  course = λ at a b. ends-alike (stepped at) (λ (x : Machine). x.agenda ≡ []) (λ x none. ap (λ agenda. stepped_at at agenda x) none) a b m;
  flush = λ a b. ends-alike flush_step (λ (x : Machine). slice_get x.left 0 ≡ Some []) (λ x done. ap (λ first. flush_step_at first x) done) a b m;
}
